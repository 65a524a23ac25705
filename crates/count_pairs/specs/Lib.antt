pub mod Homes
pub mod Table
pub mod Writing
pub mod Cause
pub mod Loading
