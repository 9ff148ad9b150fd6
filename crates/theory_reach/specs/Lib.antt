-- Conditions that the laws of groups speak of.
pub mod Orders
pub mod Inside
pub mod Numbering
