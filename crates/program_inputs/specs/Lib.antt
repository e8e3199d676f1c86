pub mod Program
pub mod Read
pub mod Held
pub mod Maps
