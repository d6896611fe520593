pub mod StoreLemmas
pub mod Levels
