pub mod Safety
pub mod Staying
pub mod Beginning
pub mod Seeing
