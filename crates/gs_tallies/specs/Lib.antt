pub mod Spreads
pub mod Tallies
pub mod Groups
pub mod Chains
pub mod Each
pub mod Accounts
pub mod Drafts
pub mod Threads
