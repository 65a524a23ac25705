pub mod Kin
pub mod Order
pub mod Stored
