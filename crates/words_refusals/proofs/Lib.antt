-- The laws that the proofs of this crate and of those above cite.
pub mod Plain
pub mod Promised
pub mod Shown
