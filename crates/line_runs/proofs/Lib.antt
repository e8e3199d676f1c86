mod Ends
mod Others
mod Starting
mod Refusing
mod Telling
pub mod Passed
