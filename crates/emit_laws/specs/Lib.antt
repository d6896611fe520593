pub mod Readable
pub mod Members
pub mod Sets
pub mod Outlines
