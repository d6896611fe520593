pub mod Ranges
pub mod StatementViews
pub mod Views
