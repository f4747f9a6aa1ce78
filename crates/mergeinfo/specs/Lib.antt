pub mod Maybe
pub mod Ranges
pub mod Sources
pub mod Texts
pub mod Sweeps
pub mod Gathered
pub mod Normal
