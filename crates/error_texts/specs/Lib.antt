pub mod Fields
pub mod Objects
pub mod Sentences
pub mod Unread
pub mod Pairs
