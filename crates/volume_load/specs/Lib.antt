pub mod Known
pub mod Last
