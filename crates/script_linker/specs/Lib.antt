pub mod Generated
pub mod Rows
pub mod Index
pub mod Link
pub mod Lookup
pub mod Refs
pub mod Rules
pub mod Signature
