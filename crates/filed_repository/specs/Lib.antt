pub mod Creating
pub mod Files
pub mod Histories
pub mod Reading
pub mod Standing
pub mod CreatingFolder
pub mod Faults
pub mod Migrating
