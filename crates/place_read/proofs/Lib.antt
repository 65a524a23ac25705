pub mod BlockLaws
pub mod PartLaws
pub mod Places
pub mod ReadData
pub mod SoundLaws
