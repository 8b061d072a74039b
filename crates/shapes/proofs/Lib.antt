pub mod Comparing
pub mod Narrowing
pub mod Stacks
pub mod Joining
pub mod Acting
pub mod Knowing
pub mod Filling
