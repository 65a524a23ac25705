pub mod Memory
pub mod Planned
pub mod Told
