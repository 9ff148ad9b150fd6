-- What the contracts of this crate add to the definitions of `netlist`: words that mark the settings of a batch, those
-- that never come among them, and the search over batches.
pub mod Lanes
pub mod Nevers
pub mod Batches
pub mod Judged
