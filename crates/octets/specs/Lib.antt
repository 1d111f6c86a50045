pub mod Lists
pub mod Refusals
pub mod Octets
pub mod Complement
pub mod Claims
