-- What the laws of unrolling (rendering) speak of.
pub mod Copies
pub mod Minimal
