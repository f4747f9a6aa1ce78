pub mod Standing
pub mod Settling
