pub mod DeviceLists
pub mod SleepLists
