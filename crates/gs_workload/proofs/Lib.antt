pub mod Lists
pub mod Masks
pub mod Pairs
pub mod Words
mod Worked
