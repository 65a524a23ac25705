pub mod Late
pub mod LogRows
pub mod FreshRow
pub mod PointRows
