pub mod Rows
pub mod Table
pub mod Live
pub mod Mirrors
pub mod Cleared
