pub mod Asked
pub mod Ended
pub mod Failures
pub mod Policies
pub mod Status
