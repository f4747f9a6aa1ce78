pub mod Written
pub mod Runs
pub mod Own
pub mod Spelled
pub mod Values
pub mod Mirroring
pub mod Entered
pub mod Owned
pub mod Having
pub mod Leading
pub mod Bringing
pub mod NameSets
pub mod Joined
pub mod Standing
pub mod Led
pub mod Reached
mod Beneath
mod Quiet
mod Found
mod Walked
