pub mod Stretches
pub mod Cutting
pub mod Exact
pub mod Searching
mod Rows
pub mod Passed
