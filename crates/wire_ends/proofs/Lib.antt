pub mod BufferLemmas
mod KnownLemmas
pub mod PutLemmas
pub mod TakeLemmas
