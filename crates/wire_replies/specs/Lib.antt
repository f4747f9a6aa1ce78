pub mod Made
pub mod Parts
pub mod Pieces
pub mod Replies
pub mod Sinks
