mod Worked
pub mod Spoken
