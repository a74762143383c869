pub mod Format
pub mod Faithful
pub mod Written
pub mod Put
pub mod WrittenBack
