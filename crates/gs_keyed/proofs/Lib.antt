pub mod Orders
pub mod Sorts
pub mod Turns
pub mod Walks
