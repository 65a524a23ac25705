pub mod Runs
pub mod Taken
pub mod Steps
pub mod Order
pub mod Rows
