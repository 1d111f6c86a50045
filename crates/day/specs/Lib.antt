pub mod Day
pub mod Taken
pub mod Steps
pub mod Claims
