pub mod Cause
pub mod Comparing
