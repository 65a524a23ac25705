pub mod FewPointers
pub mod GoingLaws
pub mod InodeLaws
pub mod MarkLaws
pub mod MetadataLaws
pub mod MixedLaws
pub mod NodeLaws
mod LeftLaws
mod OrderLaws
pub mod ReadsLaws
pub mod StrayLaws
pub mod TreeLaws
pub mod WholeLaws
