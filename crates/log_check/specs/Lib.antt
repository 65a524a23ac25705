pub mod Accepting
pub mod Cause
pub mod Holding
pub mod Reading
pub mod Shown
