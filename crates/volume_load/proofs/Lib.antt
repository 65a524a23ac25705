pub mod FitLaws
pub mod FoundLaws
pub mod LastLaws
pub mod NumberLaws
pub mod SeenInodes
pub mod SeenPointers
