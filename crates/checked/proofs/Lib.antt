pub mod Running
pub mod Growing
pub mod Stacking
pub mod Pieces
pub mod Sounding
pub mod Standing
pub mod Behaving
