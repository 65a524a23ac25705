pub mod Slots
pub mod Pages
pub mod Index
pub mod Reading
pub mod Laws
