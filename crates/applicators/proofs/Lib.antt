pub mod ItemLemmas
pub mod ContainsLemmas
pub mod ConsequentLemmas
pub mod FormLemmas
pub mod CombinedLemmas
pub mod DeclaredLemmas
pub mod MatchingLemmas
pub mod Asking
