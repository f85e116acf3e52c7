mod Landings
mod Texts
mod Values
mod Folded
mod Reported
