pub mod Entries
pub mod EntryRuns
pub mod CodedRuns
