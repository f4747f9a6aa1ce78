pub mod Quiet
pub mod Transactions
pub mod Sound
pub mod Settling
