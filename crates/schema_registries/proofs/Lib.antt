mod Trees
mod Nearer
mod Texts
pub mod Found
pub mod Matched
mod Lists
mod PlacesApart
mod Levels
mod Children
pub mod Distinct
mod PlacesFound
mod Values
