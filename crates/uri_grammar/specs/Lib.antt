pub mod Texts
pub mod Addresses
pub mod Groups
pub mod Parts
pub mod Grammar
pub mod Classes
pub mod Lent
