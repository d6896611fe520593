pub mod Lists
pub mod Ascends
pub mod Faults
pub mod NumberLemmas
pub mod Complete
pub mod HeldLemmas
pub mod StateLemmas
