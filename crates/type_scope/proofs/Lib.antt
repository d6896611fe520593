pub mod CalleeLemmas
pub mod ScopeLemmas
pub mod SourceLemmas
