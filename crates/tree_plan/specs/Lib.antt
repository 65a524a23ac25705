pub mod Trees
pub mod Pages
pub mod Directories
pub mod Renewed
