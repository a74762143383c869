pub mod SumLaws
pub mod AccountLaws
pub mod StepLaws
pub mod NumberLaws
pub mod ArgumentLaws
pub mod AskedLaws
pub mod SkipLaws
