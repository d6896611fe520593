pub mod AccessHeads
pub mod Heads
pub mod MemberRanges
pub mod Scopes
pub mod Trees
pub mod Types
pub mod VariableHeads
