pub mod Lists
pub mod Keeping
pub mod Moves
