pub mod Machine
pub mod Sequences
pub mod Records
pub mod Claims
