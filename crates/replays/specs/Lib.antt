pub mod Places
pub mod Shaping
pub mod Commands
pub mod Edits
pub mod Sending
pub mod Visiting
pub mod Mirrors
