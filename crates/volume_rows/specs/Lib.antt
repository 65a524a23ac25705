pub mod Setting
pub mod Sharing
pub mod Space
pub mod Files
