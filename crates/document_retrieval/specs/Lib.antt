pub mod Known
pub mod Stages
pub mod Layers
pub mod Gathered
