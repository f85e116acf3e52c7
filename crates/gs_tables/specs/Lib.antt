pub mod Notes
pub mod Numbers
pub mod Timehist
pub mod Latency
pub mod Idle
pub mod Pieces
pub mod Tables
pub mod Rows
