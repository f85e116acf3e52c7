mod Lent
mod ReadBack
mod Exact
mod States
mod Busy
mod Written
mod Filled
mod Flagged
mod Rows
pub mod Laws
