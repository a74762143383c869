pub mod GatheredLaws
pub mod NumberLaws
