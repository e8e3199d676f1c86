pub mod Paths
pub mod Words
pub mod Checks
pub mod Written
pub mod Listing
