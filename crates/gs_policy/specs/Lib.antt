pub mod Any
pub mod Candidates
pub mod Plan
pub mod Safe
pub mod Safety
pub mod Shown
pub mod Walks
