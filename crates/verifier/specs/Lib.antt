pub mod Flows
pub mod Acting
pub mod Fresh
pub mod Swept
pub mod Checking
pub mod Bodies
