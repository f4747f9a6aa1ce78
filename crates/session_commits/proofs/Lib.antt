pub mod Gathered
pub mod Edits
