pub mod Forms
pub mod Joining
pub mod Premises
pub mod Laws
pub mod Linked
pub mod Example
pub mod Needed
