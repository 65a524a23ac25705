pub mod PageLaws
pub mod ListLaws
pub mod StandLaws
pub mod PlanWrites
pub mod FreeLaws
pub mod Settled
