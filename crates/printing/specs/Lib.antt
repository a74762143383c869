pub mod Gathered
pub mod Numbers
