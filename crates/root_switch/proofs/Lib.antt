mod CurrentLemmas
pub mod SwitchLemmas
