pub mod Cases
pub mod Fields
pub mod Images
pub mod Places
pub mod ToCome
pub mod Packed
