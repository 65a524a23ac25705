pub mod FileBlocks
pub mod Mountable
pub mod Numbered
pub mod SeenPlaces
