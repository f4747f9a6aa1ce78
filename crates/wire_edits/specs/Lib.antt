pub mod Editing
pub mod Places
pub mod Printing
pub mod Texts
