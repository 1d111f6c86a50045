pub mod Fresh
pub mod Given
pub mod Window
pub mod Kept
pub mod Demand3
