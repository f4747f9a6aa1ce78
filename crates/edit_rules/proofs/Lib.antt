pub mod Kept
pub mod Standing
pub mod Right
pub mod Sound
pub mod Places
