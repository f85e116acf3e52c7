pub mod Uses
pub mod Times
pub mod Waiting
pub mod Counting
pub mod Tallies
pub mod Seats
pub mod Facts
pub mod Boards
