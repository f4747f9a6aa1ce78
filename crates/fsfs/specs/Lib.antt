pub mod Files
pub mod Pieces
pub mod Known
pub mod Judging
pub mod Whole
pub mod Reached
