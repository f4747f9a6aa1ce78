pub mod Putting
pub mod Fuses
