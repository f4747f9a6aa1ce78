pub mod Answering
pub mod Forms
pub mod Names
