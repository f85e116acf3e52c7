pub mod ClassShare
pub mod HomeFirst
pub mod Words
