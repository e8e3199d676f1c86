pub mod FaultLemmas
pub mod KindLemmas
pub mod PairLemmas
pub mod PathLemmas
pub mod PhraseLemmas
