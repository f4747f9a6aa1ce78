pub mod Seen
pub mod Retained
pub mod Written
pub mod Noted
pub mod Beneath
