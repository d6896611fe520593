pub mod Device
pub mod InRange
pub mod Outlines
pub mod Scenes
pub mod Set
pub mod Tree
pub mod Values
