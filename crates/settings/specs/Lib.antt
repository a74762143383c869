pub mod Block
pub mod Edition
pub mod Entries
pub mod Read
pub mod Write
pub mod Answers
