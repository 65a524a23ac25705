mod IndexLaws
mod NameOrder
mod SlotLaws
mod NameLaws
mod KeptLaws
mod StepLaws
mod PageLaws
mod MapLaws
