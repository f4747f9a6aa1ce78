pub mod Releasing
pub mod Calls
