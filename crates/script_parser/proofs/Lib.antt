pub mod Depth
pub mod Standing
pub mod WordCounts
