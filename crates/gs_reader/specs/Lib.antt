pub mod RefHeld
pub mod Creation
pub mod Fault
pub mod Reading
pub mod Records
pub mod Taking
