pub mod Faults
pub mod Spelling
pub mod Reading
pub mod Parts
pub mod Held
pub mod Loading
