mod CopyLemmas
pub mod Rising
pub mod Related
pub mod Linking
pub mod Standing
pub mod Numbering
pub mod Places
