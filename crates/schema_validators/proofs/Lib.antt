mod Making
mod ByNodes
mod Hearing
mod Certifying
pub mod MissingLemmas
mod First
mod Agreeing
mod Asking
mod Owning
mod Telling
mod BuiltLemmas
pub mod Accepting
pub mod Preparing
pub mod Placing
pub mod Entries
pub mod Rooting
mod Causing
mod AbsentLemmas
mod MisnamedLemmas
mod RefusedTextLemmas
