pub mod Standing
pub mod Record
pub mod History
pub mod State
pub mod Narrow
pub mod JournalState
pub mod Walk
pub mod Last
