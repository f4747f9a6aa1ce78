pub mod Queries
pub mod Beneath
pub mod Walks
pub mod Questions
