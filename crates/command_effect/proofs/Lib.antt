pub mod BlockLaws
pub mod NodeEffects
pub mod FileEffects
pub mod SoundLaws
pub mod StagedSlots
pub mod StagedTable
pub mod StagedWithin
pub mod FitsLaws
