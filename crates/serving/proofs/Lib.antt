pub mod Addresses
pub mod Mapped
pub mod Served
