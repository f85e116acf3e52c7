pub mod Knowing
mod Ticking
mod Ordering
mod Lasting
mod WorkedTurns
