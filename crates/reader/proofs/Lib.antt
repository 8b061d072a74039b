mod Repeating
mod Turns
mod Places
mod Joining
pub mod Fits
pub mod Lettering
