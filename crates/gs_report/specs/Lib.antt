pub mod Counts
pub mod Report
