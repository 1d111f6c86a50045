pub mod Cases
pub mod Distances
