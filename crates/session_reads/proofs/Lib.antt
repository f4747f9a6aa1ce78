pub mod Values
pub mod Joined
pub mod Each
pub mod Listed
pub mod Told
pub mod InTurn
