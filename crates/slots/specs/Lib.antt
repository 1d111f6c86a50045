pub mod Slots
pub mod Window
pub mod Steps
pub mod Claims
