pub mod WalkLaws
mod NumberLaws
mod KeptLaws
mod SlotCounts
mod CountLaws
pub mod RefusalLaws
pub mod PieceLaws
mod SlotNumbers
pub mod ShapeLaws
mod MoveLaws
mod MoveSlots
mod RenameShapes
mod GrowLaws
mod MakeLaws
mod SizeLaws
mod RemoveLaws
mod RenameTables
mod DoesLaws
pub mod ReadyLaws
mod AcceptedLaws
mod NewLaws
mod ListLaws
mod OrderLaws
pub mod PlanLaws
mod PlannedLaws
pub mod WithinLaws
