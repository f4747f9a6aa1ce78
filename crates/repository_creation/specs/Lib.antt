pub mod Creating
pub mod Migrating
