mod Believed
mod Found
mod Index
mod Marks
mod Rows
pub mod Laws
