pub mod News
pub mod Parts
pub mod Places
