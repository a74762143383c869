pub mod Closing
pub mod Reason
