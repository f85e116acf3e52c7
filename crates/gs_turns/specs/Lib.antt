pub mod Stances
pub mod Since
pub mod Knowing
pub mod Ticked
pub mod Times
pub mod Turns
