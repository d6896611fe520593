pub mod Book
pub mod Discipline
pub mod Journal
pub mod Lines
pub mod Outline
pub mod Reading
pub mod Waiting
