pub mod Inherited
pub mod Sweep
pub mod Names
pub mod Objects
pub mod Nearest
pub mod Plain
pub mod Rows
