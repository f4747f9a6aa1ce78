pub mod Beginning
pub mod Copying
