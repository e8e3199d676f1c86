pub mod Drafts
pub mod Vocabularies
pub mod Counts
pub mod Subschemas
pub mod Identifiers
pub mod Children
pub mod Left
