pub mod Alike
pub mod Bounds
pub mod Deltas
pub mod Streams
