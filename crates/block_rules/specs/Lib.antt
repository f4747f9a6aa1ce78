pub mod Rules
pub mod Ways
