pub mod Cases
pub mod Fronts
pub mod Searches
