mod Ranges
mod Sound
mod Creations
mod Front
mod Again
mod Pads
mod Exact
mod Refs
mod Segments
mod Rows
pub mod Laws
