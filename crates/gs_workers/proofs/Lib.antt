mod Few
mod Listing
mod Names
mod Running
mod Shorts
