pub mod Hmac
pub mod Login
pub mod Line
pub mod UsersFile
pub mod ParsedLine
pub mod Parts
pub mod Answer
