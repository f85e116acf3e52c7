pub mod Around
pub mod Pads
pub mod Written
pub mod Touched
pub mod ReadAgain
pub mod Rows
pub mod Held
pub mod Next
pub mod Standing
pub mod Laps
pub mod Posting
mod Emptied
