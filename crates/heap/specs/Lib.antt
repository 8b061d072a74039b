pub mod Checked
pub mod Storage
pub mod Relation
pub mod Stands
