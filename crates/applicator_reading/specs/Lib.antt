pub mod Passed
pub mod Beside
pub mod Others
pub mod Arms
pub mod Names
pub mod Reads
pub mod Dependencies
pub mod Conditions
