pub mod Changes
pub mod Events
pub mod Files
pub mod Authors
pub mod Rules
pub mod Moments
pub mod Edition
