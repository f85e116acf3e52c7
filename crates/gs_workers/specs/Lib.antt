pub mod Work
pub mod Written
