pub mod Records
pub mod Pages
pub mod Scans
pub mod Spelled
mod Rows
