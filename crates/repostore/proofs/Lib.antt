pub mod Reaching
pub mod Steps
pub mod Joining
pub mod Readings
