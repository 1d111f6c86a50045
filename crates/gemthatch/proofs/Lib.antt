pub mod Blocks
pub mod MapCalls
pub mod Numbers
pub mod Put
pub mod Places
pub mod Formed
