pub mod Entries
pub mod Runs
