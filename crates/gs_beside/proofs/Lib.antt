pub mod LastForm
pub mod Named
pub mod Reading
mod Rows
