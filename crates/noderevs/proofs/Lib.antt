pub mod Finding
pub mod Pushing
pub mod Empty
pub mod FirstBlock
pub mod Names
pub mod Heights
pub mod Apart
mod NamesApart
pub mod Earlier
pub mod Beside
