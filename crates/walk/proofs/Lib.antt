pub mod Ahead
pub mod InOrder
