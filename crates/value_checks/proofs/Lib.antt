pub mod Walked
pub mod Unescaping
pub mod Alternatives
pub mod Keys
pub mod Ties
pub mod Trees
pub mod Sorting
pub mod Searching
