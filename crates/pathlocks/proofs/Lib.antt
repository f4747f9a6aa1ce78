pub mod Maps
pub mod Runs
pub mod Ways
pub mod Held
pub mod AllHeld
pub mod Releases
pub mod Handed
pub mod Changing
