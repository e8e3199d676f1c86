pub mod Code
pub mod CodePatterns
pub mod Order
pub mod Laws
pub mod Sorts
