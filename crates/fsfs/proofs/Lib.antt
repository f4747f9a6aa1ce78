pub mod PartsAgain
pub mod Loops
mod SameBytes
pub mod KnownTexts
pub mod Parts
pub mod Entries
pub mod Descent
pub mod Again
