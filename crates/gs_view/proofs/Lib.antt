mod Agreed
mod Indexed
mod Listed
mod Loading
mod Rows
mod Showing
mod Steps
pub mod Laws
