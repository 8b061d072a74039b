pub mod Rest
pub mod Raw
pub mod Hex
pub mod Skipping
pub mod Load
pub mod Numbers
