pub mod Found
pub mod KeyOrder
pub mod NoFloat
pub mod Ordered
pub mod SameScene
pub mod Texts
pub mod Turns
pub mod Upgraded
