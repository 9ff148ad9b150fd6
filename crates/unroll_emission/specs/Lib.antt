-- What the contracts of this crate add to the definitions of `netlist`.
pub mod Words
pub mod Mapping
