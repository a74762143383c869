pub mod Account
pub mod Arguments
pub mod Number
pub mod Asked
pub mod Load
pub mod Skips
