pub mod Seen
pub mod References
pub mod Read
pub mod Refused
pub mod Arms
pub mod Errors
pub mod Passed
