pub mod Arrays
pub mod Instances
pub mod Values
pub mod Depths
