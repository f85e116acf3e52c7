pub mod FirstOnly
pub mod ZeroPreempts
pub mod Stale
