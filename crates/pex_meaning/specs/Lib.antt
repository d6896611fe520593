pub mod Prelude
pub mod Names
pub mod Instructions
pub mod Functions
pub mod Meant
