-- What the contracts of this crate add to the definitions of `netlist`.
pub mod Bounds
pub mod Nodes
pub mod Names
pub mod Masks
