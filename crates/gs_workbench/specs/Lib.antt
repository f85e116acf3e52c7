pub mod Settings
pub mod Written
