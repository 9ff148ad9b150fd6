-- What the contracts of this crate add to the definitions of `netlist`: a group's pairs of words, the passes of one
-- group, and the walk over all groups and batches.
pub mod Pairs
pub mod Group
pub mod Passes
pub mod Counting
