pub mod Code
pub mod Engine
pub mod Execution
pub mod LookUp
pub mod Operands
