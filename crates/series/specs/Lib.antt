pub mod Series
pub mod Candidate
pub mod Steps
pub mod Claims
