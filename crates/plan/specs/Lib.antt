pub mod Programs
pub mod Shapes
pub mod Effects
pub mod Starts
pub mod Plans
pub mod Sweep
pub mod Judgement
pub mod Samples
