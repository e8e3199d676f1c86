pub mod Joined
pub mod LocationTexts
pub mod Locations
