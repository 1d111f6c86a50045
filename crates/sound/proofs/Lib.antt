pub mod Sound
pub mod Ranges
