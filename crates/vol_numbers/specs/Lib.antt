pub mod Block
pub mod Cause
pub mod Geometry
pub mod Layout
pub mod Name
pub mod Plan
