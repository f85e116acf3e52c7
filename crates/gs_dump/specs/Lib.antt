pub mod Version
pub mod Record
pub mod Page
pub mod Reading
pub mod Scan
pub mod Written
