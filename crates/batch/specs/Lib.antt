pub mod Batch
pub mod Answers
pub mod Steps
pub mod Repeated
