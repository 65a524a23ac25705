pub mod Metadata
pub mod Laws
pub mod Needs
