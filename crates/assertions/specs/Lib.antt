pub mod Names
pub mod Shapes
pub mod Wrong
pub mod Texts
pub mod Arms
pub mod Reads
pub mod Named
