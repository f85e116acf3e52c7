mod Lookups
mod Walks
mod Living
mod Entries
mod Told
mod Mirroring
mod Placing
mod Clearing
mod Mirrored
mod Rows
pub mod Laws
