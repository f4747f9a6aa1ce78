pub mod Answered
pub mod Follows
pub mod Known
pub mod Runs
