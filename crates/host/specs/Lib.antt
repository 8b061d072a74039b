pub mod Hosts
pub mod View
pub mod Arguments
pub mod Drives
pub mod Lines
pub mod Lawfulness
