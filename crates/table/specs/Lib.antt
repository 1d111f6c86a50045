pub mod Table
pub mod Memory
pub mod Steps
