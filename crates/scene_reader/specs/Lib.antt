pub mod Default
pub mod Document
pub mod KeyOrder
pub mod Limits
pub mod Plan
pub mod Reading
pub mod SceneOf
pub mod SceneText
