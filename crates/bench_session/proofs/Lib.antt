-- The theorems on the run: a line that is held in part is answered as the whole one, a block that was read is not
-- malformed, and the outputs of the pieces, joined, are `bench` of the pieces joined; and the laws that the proofs of
-- the functions cite. Assumes nothing.
mod Answers
mod LineSteps
mod NetlistSteps
pub mod Written
pub mod LongLines
pub mod ReadBlocks
pub mod ReadNevers
pub mod Whole
pub mod Pieces
mod Steps
mod Bytes
