pub mod Values
pub mod Faults
pub mod Floats
pub mod Sizes
