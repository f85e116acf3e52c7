pub mod Chance
pub mod Lines
pub mod Threads
pub mod Heard
pub mod Changes
pub mod Simulated
