pub mod Answers
pub mod Hold
pub mod Journal
pub mod Play
pub mod Program
pub mod Report
pub mod Resume
pub mod Sample
