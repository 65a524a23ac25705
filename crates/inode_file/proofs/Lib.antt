mod BlockLaws
mod CountingLaws
mod DamageLaws
mod LoadLaws
pub mod SpellLaws
mod PassingLaws
mod RenewalLaws
mod TableLaws
mod TakenLaws
