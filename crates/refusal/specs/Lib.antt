pub mod Refusals
pub mod Claims
