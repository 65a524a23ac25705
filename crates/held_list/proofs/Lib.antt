pub mod OrderLaws
pub mod ChangeLaws
pub mod Halves
