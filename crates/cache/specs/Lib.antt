pub mod Cache
pub mod Runs
pub mod Answers
pub mod Steps
