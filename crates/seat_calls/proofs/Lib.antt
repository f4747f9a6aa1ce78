pub mod Changing
pub mod Calling
pub mod Stopping
