pub mod Counts
pub mod Fields
pub mod Homes
pub mod Index
pub mod Inode
pub mod Root
pub mod Slot
pub mod Words
