-- Laws that the proofs of this crate cite: lists, what Read answers by cases, the words it writes, what each step
-- needs; and for callers, that the largest block fits.
pub mod ListFacts
pub mod TestPlaces
pub mod Outcomes
pub mod BlockWords
pub mod Stages
pub mod ReadFits
