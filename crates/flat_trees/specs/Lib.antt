pub mod EntryChanges
pub mod Merging
pub mod Changing
