mod Names
mod Spelled
mod ReadBack
mod Parcels
mod NumberBytes
mod Shared
mod Rows
mod Corners
pub mod Laws
