pub mod FindingLemmas
pub mod FreshLemmas
pub mod ImageLaws
pub mod LoggingLemmas
pub mod MountLemmas
pub mod ReplayLemmas
pub mod AnswerLemmas
