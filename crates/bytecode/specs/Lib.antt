pub mod Outcome
pub mod Instructions
pub mod Program
pub mod Stops
