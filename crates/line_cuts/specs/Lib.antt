pub mod Devices
pub mod Over
pub mod Memory
pub mod Watched
pub mod Cuts
pub mod Runs
pub mod Steps
