pub mod Stored
pub mod Holding
pub mod Part
pub mod Laws
