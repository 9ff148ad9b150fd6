-- Laws that the proofs of this crate cite: lists stored in slices, words copied, words of the definitions, the whole
-- result.
pub mod Words
pub mod Copied
pub mod Written
