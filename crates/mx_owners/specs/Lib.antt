pub mod OwnerRuns
