pub mod Status
pub mod Masks
