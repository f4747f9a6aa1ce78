pub mod Asked
pub mod Handing
