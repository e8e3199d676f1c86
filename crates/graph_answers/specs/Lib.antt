pub mod Tables
pub mod Completions
pub mod Linking
pub mod Answers
pub mod Runs
pub mod Certain
pub mod Seeking
