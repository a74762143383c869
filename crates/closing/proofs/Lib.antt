pub mod ClosesLaws
pub mod ReasonLaws
pub mod RecordingLaws
