pub mod Nearest
