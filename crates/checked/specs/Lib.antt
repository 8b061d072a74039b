pub mod Runs
pub mod Machine
pub mod Law
pub mod Sound
pub mod Samples
pub mod Behaviour
