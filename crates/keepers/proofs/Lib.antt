pub mod Keeping
pub mod Stopping
pub mod Seats
