pub mod Paths
pub mod PathLaws
pub mod Components
pub mod Texts
pub mod Urls
pub mod Spelled
pub mod Sorting
pub mod Listings
