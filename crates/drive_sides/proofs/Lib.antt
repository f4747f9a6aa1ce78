pub mod Naming
pub mod Reaching
pub mod Deep
pub mod Knowing
pub mod Comparing
pub mod Planned
pub mod Listing
pub mod Ungrafted
pub mod SameBeneath
pub mod Existing
mod UnlikeNames
