pub mod LineLemmas
pub mod NameLemmas
pub mod NumberLemmas
mod PathLemmas
pub mod PlaceLemmas
