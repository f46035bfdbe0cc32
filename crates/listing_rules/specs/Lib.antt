pub mod Text
pub mod Lines
pub mod Listing
pub mod Longest
pub mod Examples
pub mod PutsText
pub mod BlockInFile
