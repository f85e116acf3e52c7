mod Naming
mod Obeying
