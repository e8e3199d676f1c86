mod Positions
mod Apart
mod Added
