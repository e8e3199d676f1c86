pub mod EscapeLemmas
pub mod GrowLemmas
pub mod PointerLemmas
pub mod PathLemmas
pub mod NodeLemmas
mod PointerExamples
pub mod FragmentLemmas
mod FragmentExamples
