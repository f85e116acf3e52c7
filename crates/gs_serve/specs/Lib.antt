pub mod Source
pub mod Served
pub mod Answered
pub mod Following
