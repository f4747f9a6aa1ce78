pub mod Visits
pub mod Nesting
pub mod Walks
pub mod Own
pub mod Knowing
pub mod Left
pub mod Remembered
pub mod Visiting
