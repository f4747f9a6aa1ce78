pub mod Places
pub mod Serving
pub mod Terms
