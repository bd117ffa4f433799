mod Stepped
mod StandingLaws
