pub mod Filling
pub mod Front
pub mod Holding
pub mod ReadBack
pub mod Reading
pub mod Spelling
pub mod Text
