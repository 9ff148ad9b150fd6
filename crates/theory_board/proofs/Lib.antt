-- It holds.
pub mod Driven
