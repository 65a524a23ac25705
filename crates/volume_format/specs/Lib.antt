pub mod Blocks
pub mod Formatting
pub mod Fresh
