mod Choices
mod Corners
mod Names
mod Replies
mod WorkedLines
pub mod Laws
