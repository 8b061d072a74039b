mod Searching
mod Walking
mod Spreading
mod Arguments
pub mod Forming
mod Taking
pub mod Parts
mod Decoding
mod Sweeping
mod Finishing
mod Judging
pub mod Faults
