pub mod GrantExamples
pub mod TableExamples
pub mod CallExamples
pub mod AuditExamples
