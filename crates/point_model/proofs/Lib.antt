pub mod Numbers
mod Spelled
pub mod Counted
pub mod Placed
mod Places
mod FilePlaces
mod FileBytes
mod Nodes
pub mod ChangedPages
mod OldPages
pub mod KeptPages
pub mod DirectoriesStand
mod Assembled
mod Staged
pub mod IndexStands
mod Resting
pub mod SlotsFollow
pub mod ChangeFollows
pub mod StagedNodes
mod AtRest
mod FreshPoint
pub mod BuiltEffects
mod SwitchedRoot
