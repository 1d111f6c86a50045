pub mod Replays
pub mod Ended
