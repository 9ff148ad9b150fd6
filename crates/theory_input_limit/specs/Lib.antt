-- What raising the limit of inputs changed (Paper 8).
pub mod InputLimit
pub mod Largest
