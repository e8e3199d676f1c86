pub mod Hashes
pub mod Values
