pub mod Belief
pub mod ByThread
pub mod Cpus
pub mod Held
