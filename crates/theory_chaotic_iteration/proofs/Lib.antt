-- It holds.
pub mod Shown
