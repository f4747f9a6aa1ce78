pub mod Parts
pub mod Changes
pub mod Leading
pub mod Told
