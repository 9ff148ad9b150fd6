-- The laws that the proofs of this crate cite, and the theorems on what is brought over.
pub mod Words
pub mod AsBefore
