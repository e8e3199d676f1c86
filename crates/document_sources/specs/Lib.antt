pub mod Causes
pub mod Given
pub mod Seen
pub mod Listed
pub mod Uris
pub mod Answers
