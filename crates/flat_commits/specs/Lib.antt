pub mod Contents
pub mod Open
pub mod Whole
