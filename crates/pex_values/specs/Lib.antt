pub mod Bits
pub mod Opcodes
pub mod Plain
pub mod Shape
pub mod Spelling
pub mod Fit
