pub mod Begins
pub mod Index
pub mod Listed
pub mod Loaded
pub mod Records
pub mod Shown
pub mod News
