pub mod Finding
pub mod Spelling
