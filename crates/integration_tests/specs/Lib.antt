pub mod BothEnds
pub mod FixedPlaces
pub mod Greatest
