pub mod Devices
pub mod SleepTree
pub mod SleepTreeFalls
pub mod Sleepers
