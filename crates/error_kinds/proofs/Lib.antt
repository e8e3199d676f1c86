pub mod Walked
pub mod ValueLaws
pub mod FaultLaws
pub mod TypeLemmas
pub mod ErrorLemmas
pub mod SharedLemmas
mod CopyLemmas
