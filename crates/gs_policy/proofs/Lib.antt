mod Gathered
pub mod Left
mod Most
pub mod Plans
mod Rows
mod Served
