pub mod OpeningLemmas
pub mod PutLemmas
pub mod SessionLemmas
pub mod StayLemmas
pub mod StepLemmas
pub mod WordLemmas
