pub mod KnownLemmas
pub mod StageLemmas
pub mod OnceLemmas
pub mod Apart
mod Truths
