pub mod Causes
pub mod Choosing
pub mod Matched
pub mod Matches
pub mod Runs
