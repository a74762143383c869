pub mod BackLaws
pub mod FeedLaws
pub mod BurstLaw
pub mod CompareLaws
pub mod ToldLaws
pub mod Examples
