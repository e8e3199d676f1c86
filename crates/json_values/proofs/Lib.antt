mod Examples
pub mod Names
pub mod Inversion
pub mod Equivalence
pub mod Kept
pub mod Lists
pub mod Products
pub mod Characters
pub mod Marks
pub mod LawProofs
pub mod Walked
