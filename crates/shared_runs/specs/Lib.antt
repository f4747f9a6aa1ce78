pub mod Own
pub mod Histories
