pub mod Tables
pub mod Scripts
mod Found
mod ReadLemmas
pub mod Grammar
pub mod Literals
pub mod Completions
pub mod LiteralProofs
