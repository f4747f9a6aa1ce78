pub mod Tops
pub mod Handed
