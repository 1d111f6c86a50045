pub mod Distances
pub mod Claims
