pub mod Nodes
pub mod Views
pub mod Held
pub mod Heights
pub mod Soundness
pub mod Beneath
pub mod OpeningBlocks
