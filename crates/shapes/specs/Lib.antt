pub mod Stacks
pub mod Records
pub mod Acts
pub mod Entries
