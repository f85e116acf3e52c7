pub mod Picture
pub mod Pages
pub mod Mind
pub mod Held
pub mod Drains
pub mod Role
pub mod Collected
