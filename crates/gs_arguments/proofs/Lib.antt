mod Given
pub mod Corners
mod Alone
