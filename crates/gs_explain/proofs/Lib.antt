mod Heard
mod Grown
mod Happened
mod Told
mod Overflows
pub mod Composing
pub mod Quoting
pub mod Outlining
pub mod Aside
pub mod Tailing
mod Moments
mod Meeting
mod Runs
mod Refusing
mod Finding
mod WorkedRows
mod Stamps
mod Lasting
mod Retelling
mod Rowing
mod RowsAgain
mod Keeping
mod Repeating
mod Quieting
pub mod Knowing
pub mod Sentences
