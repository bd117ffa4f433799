mod Examples
pub mod BootLaws
pub mod DrawLaws
pub mod FaultLaws
pub mod NeedLaws
pub mod PlanLaws
pub mod TableLaws
pub mod WordLaws
