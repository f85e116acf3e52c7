mod Believing
mod Followed
mod Rooms
mod Settling
mod Minds
mod Paged
mod Views
mod Rows
pub mod Laws
pub mod Draining
pub mod Collecting
