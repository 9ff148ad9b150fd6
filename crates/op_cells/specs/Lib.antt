-- What the contracts of this crate add to the definitions of `netlist`.
pub mod Made
pub mod Runs
pub mod Promise
pub mod Gate
pub mod Known
