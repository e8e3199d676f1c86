pub mod Joining
pub mod Alone
pub mod Agreeing
pub mod Forming
pub mod Bases
pub mod OneKey
pub mod Required
