pub mod BootedLaws
