pub mod Cuts
pub mod Disk
pub mod Media
pub mod Past
