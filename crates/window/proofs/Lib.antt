pub mod MoveLaws
pub mod HalfLaws
pub mod ProductLaws
pub mod TailLaws
pub mod WeightLaws
pub mod FillLaws
pub mod SumLaws
pub mod OnlyLaws
