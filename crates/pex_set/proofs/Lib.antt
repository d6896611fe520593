pub mod NameLemmas
pub mod ObjectLemmas
pub mod Positions
pub mod Stretches
pub mod Sweeps
pub mod Members
pub mod NearestLemmas
pub mod Made
