pub mod Judged
mod Lists
mod Named
mod Entering
mod Once
pub mod Reading
mod Kept
mod Read
mod Growing
mod Compared
mod Asked
mod Rows
pub mod SameNext
pub mod OneRepository
mod Heights
pub mod Seen
pub mod States
mod InOrder
mod Said
mod Sought
mod Remade
