mod Links
mod Longer
mod Lines
mod Queues
mod Rows
mod Rooms
pub mod Laws
