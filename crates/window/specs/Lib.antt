pub mod Tails
pub mod Steps
pub mod Weights
