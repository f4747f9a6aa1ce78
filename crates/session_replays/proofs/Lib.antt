pub mod InTurn
pub mod Judged
