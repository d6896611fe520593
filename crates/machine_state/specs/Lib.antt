pub mod Plain
pub mod Savable
pub mod Ranges
