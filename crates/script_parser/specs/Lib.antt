pub mod Faults
pub mod Held
pub mod Lines
pub mod Reader
pub mod Stands
pub mod Words
