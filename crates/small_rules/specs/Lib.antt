pub mod GivingWay
pub mod Guarding
