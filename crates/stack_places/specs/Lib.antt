pub mod Ending
pub mod Lists
pub mod Places
pub mod Waking
