pub mod PreparedLaws
pub mod AreaLaws
pub mod LongLaws
pub mod NowLaws
pub mod OverLaws
pub mod LinesWithin
pub mod SettledLaws
pub mod WrittenWithin
pub mod TotalLaws
pub mod WithinLaws
pub mod RoomLaws
pub mod WrittenImage
pub mod GatheredLaws
pub mod Together
mod Steps
mod DirectorySteps
mod HeldLaws
pub mod Times
pub mod Numbered
pub mod InodesPlanned
pub mod CountsPlanned
pub mod Put
pub mod Stays
pub mod Written
pub mod Whole
pub mod FreeBlocks
pub mod NumberPlanned
pub mod NodesPlanned
pub mod NodesLoop
pub mod RestedLaws
pub mod PlacedLaws
pub mod ShortLaws
pub mod PlacedShort
pub mod SeenLaws
pub mod SoundLaws
