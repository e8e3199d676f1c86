pub mod Numbers
pub mod Patterns
pub mod Shapes
pub mod Linking
