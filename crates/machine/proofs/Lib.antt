pub mod Once
pub mod Quiet
pub mod Refusing
pub mod Resting
pub mod Sound
pub mod FileTexts
