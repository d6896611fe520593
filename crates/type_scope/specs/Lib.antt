pub mod Scope
pub mod Sources
pub mod Types
