pub mod Alone
pub mod Changes
pub mod Stops
pub mod Halting
pub mod Leaving
