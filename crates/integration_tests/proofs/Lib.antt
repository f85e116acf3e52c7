pub mod Ends
mod Rows
