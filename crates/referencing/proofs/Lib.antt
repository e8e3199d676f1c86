pub mod KeptLemmas
pub mod RefusedLemmas
pub mod ToldLemmas
pub mod Extending
pub mod DynamicLemmas
pub mod KeyLemmas
pub mod ListedLemmas
pub mod Passed
