pub mod Searched
pub mod Keeping
