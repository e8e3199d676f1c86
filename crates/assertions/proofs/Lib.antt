pub mod MissingLemmas
pub mod WrongLemmas
pub mod ReadLemmas
pub mod NameLemmas
pub mod EntryLemmas
pub mod TypeLemmas
