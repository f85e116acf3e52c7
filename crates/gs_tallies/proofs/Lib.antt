mod Ranks
mod Groups
mod Links
mod Accounts
mod Outcomes
pub mod Laws
