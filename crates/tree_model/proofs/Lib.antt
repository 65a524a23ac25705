pub mod Accepted
pub mod AttemptLaws
pub mod ByteLaws
pub mod EntryCounts
pub mod EntryLaws
pub mod Fronts
pub mod Lookups
pub mod Numbers
mod Orders
mod Parents
pub mod Paths
pub mod RefusalLaws
pub mod RenameLaws
pub mod Renames
pub mod Shapes
pub mod StepFollows
pub mod StepShapes
pub mod StepWidths
mod Strips
pub mod TouchLaws
