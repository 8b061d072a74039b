pub mod Allocations
pub mod Placed
pub mod Runs
pub mod Stores
