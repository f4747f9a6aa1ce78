pub mod Table
pub mod Refusing
pub mod Faults
