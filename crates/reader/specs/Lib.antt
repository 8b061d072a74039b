pub mod Fields
pub mod Layout
pub mod Entries
pub mod View
pub mod Samples
