mod HeightLaws
pub mod InodeLaws
mod PartLaws
pub mod RootLaws
pub mod SlotLaws
pub mod WordLaws
