-- What the contracts of this crate add to the definitions of `netlist`: the pieces, and what is shown of an outcome.
pub mod Shown
pub mod Pieces
