pub mod MarkLemmas
pub mod SourceLemmas
pub mod Spreading
