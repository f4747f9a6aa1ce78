pub mod Earlier
pub mod Fitting
pub mod Right
