pub mod Filing
pub mod Pending
pub mod Stored
pub mod Keeping
pub mod Leaving
