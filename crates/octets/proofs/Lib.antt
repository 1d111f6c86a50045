pub mod Lists
pub mod Refusals
pub mod Octets
pub mod Zeros
pub mod Complement
pub mod ToFront
pub mod SameOctets
pub mod Copied
