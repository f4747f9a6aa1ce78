pub mod Archives
pub mod Publishing
