pub mod Bytes
pub mod Holding
pub mod InPlace
pub mod Rows
pub mod Selected
pub mod Selecting
pub mod Turns
