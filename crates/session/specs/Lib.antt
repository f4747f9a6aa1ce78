pub mod Awaiting
pub mod Knowing
pub mod Taking
