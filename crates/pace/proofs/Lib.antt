pub mod Sums
pub mod HalvingPace
pub mod TwoPhasePace
pub mod Places
