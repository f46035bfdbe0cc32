pub mod Views
pub mod Addressed
