pub mod Own
pub mod Going
pub mod History
