pub mod Headers
pub mod Whole
pub mod Messages
pub mod Answers
pub mod Steps
