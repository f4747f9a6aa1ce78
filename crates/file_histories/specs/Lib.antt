pub mod Segments
pub mod Deleted
pub mod Laws
pub mod FileRevisions
pub mod Differing
