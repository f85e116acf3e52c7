pub mod Held
pub mod Inside
pub mod Line
pub mod Linked
pub mod Queue
pub mod Walks
