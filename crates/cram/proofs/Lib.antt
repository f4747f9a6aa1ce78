pub mod Digits
pub mod Equal
pub mod Lines
pub mod Reading
pub mod Right
