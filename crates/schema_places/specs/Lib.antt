pub mod Seen
pub mod Plain
pub mod Causes
pub mod Held
pub mod Walks
pub mod Reached
