pub mod Journal
pub mod Json
pub mod Legible
pub mod Pieces
pub mod Reading
