pub mod AcceptLemmas
pub mod LogLemmas
pub mod MemorySeen
pub mod MemoryTree
pub mod PutLaws
pub mod ResultLemmas
pub mod TableLaws
