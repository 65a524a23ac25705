pub mod RunLaws
pub mod StepLaws
pub mod SearchLaws
pub mod RuleLaws
pub mod ZeroLaws
pub mod ComputedLaws
pub mod OrderLaws
