mod Listed
mod Required
mod Alike
pub mod Dialects
pub mod Resolved
pub mod Hashes
