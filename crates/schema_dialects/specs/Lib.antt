pub mod Named
pub mod Sets
pub mod Dialects
pub mod Passed
pub mod Unknown
pub mod Seen
