pub mod Entries
pub mod Overlay
pub mod Numbers
pub mod Undo
pub mod Runs
pub mod Laws
pub mod Inside
