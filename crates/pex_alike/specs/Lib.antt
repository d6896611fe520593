pub mod SameCode
pub mod FunctionNaming
