pub mod Steps
pub mod Forms
pub mod Parts
pub mod Members
pub mod Around
pub mod Unrefused
