pub mod Machine
pub mod Kept
pub mod Written
pub mod Simulation
pub mod Demand3
pub mod Premise
