pub mod BlockLemmas
pub mod FormatLemmas
pub mod FreshLaws
