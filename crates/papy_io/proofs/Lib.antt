pub mod Progress
pub mod Changes
pub mod FileMap
pub mod DeskSteps
pub mod Appending
