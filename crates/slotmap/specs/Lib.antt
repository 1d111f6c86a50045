pub mod Map
pub mod Steps
pub mod Sequences
pub mod Claims
