mod Chain
mod Given
mod Added
