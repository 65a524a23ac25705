pub mod Taking
pub mod Cause
pub mod Writing
