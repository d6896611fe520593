pub mod Blocks
pub mod Fault
pub mod Nesting
