pub mod RoundRobin
pub mod Words
