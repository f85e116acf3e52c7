mod Alike
mod BitWords
mod Rows
mod Summed
pub mod Laws
