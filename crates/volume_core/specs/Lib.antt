pub mod Memory
pub mod Answers
pub mod Begun
pub mod Replied
pub mod Staging
pub mod Changing
