pub mod FoundLemmas
pub mod GeneratedLemmas
pub mod LinkLemmas
pub mod LookupLemmas
pub mod Growing
