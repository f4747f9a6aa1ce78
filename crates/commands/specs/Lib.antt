pub mod Commands
pub mod Logins
