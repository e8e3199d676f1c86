pub mod Added
pub mod DocumentLaws
pub mod ReadingLaws
pub mod Needed
