mod Pieces
mod Places
mod WorkedJournal
mod Words
mod EntryWords
mod ReadBack
mod Alike
pub mod Laws
