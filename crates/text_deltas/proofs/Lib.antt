pub mod Alikes
pub mod Bytes
pub mod Documents
pub mod Groups
pub mod Shares
pub mod Views
pub mod Whole
pub mod Written
