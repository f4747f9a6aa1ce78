pub mod Depths
pub mod Parameters
pub mod Asking
pub mod Reporting
