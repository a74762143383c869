pub mod CallLaws
pub mod OnlyLaws
pub mod Isolation
