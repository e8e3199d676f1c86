pub mod RowLemmas
pub mod ListLemmas
pub mod MapLemmas
pub mod ArmLemmas
pub mod NamedLemmas
pub mod DependencyLemmas
