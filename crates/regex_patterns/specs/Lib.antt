pub mod Searches
pub mod Matchers
pub mod Kept
