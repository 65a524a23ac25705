pub mod Collecting
pub mod Kept
pub mod Kin
pub mod Order
pub mod Using
