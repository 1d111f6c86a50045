pub mod OverC
pub mod Claims
