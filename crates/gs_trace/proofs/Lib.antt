mod Lists
mod One
mod Adding
mod WorkedRuns
mod Corners
pub mod NotedParts
mod Telling
mod Writing
