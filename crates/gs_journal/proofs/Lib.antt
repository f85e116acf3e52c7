mod Lists
mod Steps
mod Past
mod Folds
mod Least
mod Rows
pub mod Laws
