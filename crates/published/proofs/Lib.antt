pub mod Fronts
pub mod Adding
pub mod Histories
pub mod Owns
pub mod Commits
