pub mod Memory
pub mod Calls
pub mod Loops
pub mod Looks
