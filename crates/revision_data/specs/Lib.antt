pub mod Found
pub mod Prepared
