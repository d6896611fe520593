pub mod Encoded
pub mod HeldScripts
pub mod PexRead
pub mod ScriptFaults
pub mod SourceSets
pub mod TextRead
