pub mod Damage
pub mod Compare
pub mod Answers
