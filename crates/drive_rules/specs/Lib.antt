pub mod Steps
pub mod Drives
pub mod Scopes
pub mod Places
