pub mod Words
pub mod Samples
