pub mod Message1001
pub mod Measured
pub mod Lists
pub mod Read1001
pub mod Write1001
pub mod Answers
pub mod Steps
