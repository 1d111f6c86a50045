pub mod NineOctets
pub mod Rates
pub mod Parameters
pub mod Claims
pub mod Steps
