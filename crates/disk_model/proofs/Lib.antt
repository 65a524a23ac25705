mod CutLemmas
pub mod Moments
