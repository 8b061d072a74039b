pub mod Runtime
pub mod Relation
pub mod Law
pub mod Behaviour
