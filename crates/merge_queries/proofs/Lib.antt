pub mod Upwards
pub mod Inheriting
pub mod Answering
pub mod Leading
pub mod Noting
pub mod Whole
