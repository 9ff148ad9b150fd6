-- Conditions that the laws of renumbered gates speak of.
pub mod Renumbering
pub mod Moved
