pub mod Cases
pub mod Tests
pub mod RoundTrips
pub mod Rates
pub mod Parameters
