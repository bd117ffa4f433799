mod Examples
pub mod BootedLaws
pub mod Continued
pub mod Documents
pub mod Endings
pub mod FileSteps
pub mod Findings
pub mod FitLaws
pub mod Leads
pub mod Lines
pub mod Names
pub mod Outcomes
pub mod Parts
pub mod Resumptions
pub mod Scheduled
pub mod Schedules
pub mod Shapes
pub mod Shortfalls
pub mod Sizes
pub mod StepCauses
mod PlanLaws
