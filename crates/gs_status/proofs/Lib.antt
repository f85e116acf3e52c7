mod Halves
mod Least
mod Marking
mod Masks
mod Rows
pub mod Laws
