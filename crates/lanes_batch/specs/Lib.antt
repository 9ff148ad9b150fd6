-- What the contracts of this crate add to the definitions of `netlist`.
pub mod Batch
pub mod Circuit
pub mod Layered
pub mod Plan
