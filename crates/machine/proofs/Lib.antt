pub mod Asking
pub mod Fetching
pub mod Looking
pub mod Readiness
pub mod Running
pub mod Starting
