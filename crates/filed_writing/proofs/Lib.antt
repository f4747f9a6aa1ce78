pub mod Coming
pub mod Keeping
pub mod Pieces
pub mod Places
pub mod Rising
pub mod Roots
pub mod Behind
