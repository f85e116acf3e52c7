pub mod Own
pub mod Beside
pub mod Said
pub mod Otherwise
pub mod Told
