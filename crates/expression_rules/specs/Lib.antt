pub mod Constants
pub mod Conversions
pub mod Operations
pub mod Ranges
pub mod Rules
pub mod Scopes
