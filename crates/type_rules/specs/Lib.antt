pub mod Faults
pub mod Heads
pub mod Members
pub mod Ranges
pub mod Variables
