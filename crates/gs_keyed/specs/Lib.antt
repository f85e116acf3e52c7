pub mod Keyed
pub mod Order
pub mod Ordered
pub mod Ticks
