pub mod Text
pub mod Listing
pub mod Day
pub mod Steps
pub mod Claims
