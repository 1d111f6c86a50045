pub mod Tests
pub mod Cases
pub mod SomeBelow
pub mod LastStarted
pub mod Blocks
pub mod Series
pub mod Apart
pub mod Signed
