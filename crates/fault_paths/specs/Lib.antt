pub mod Texts
pub mod Found
pub mod Behind
pub mod Ahead
pub mod Laws
pub mod Obliged
