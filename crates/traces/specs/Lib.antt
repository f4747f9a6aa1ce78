pub mod Traces
pub mod Touching
