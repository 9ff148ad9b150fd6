-- What the contracts of this crate add to the definitions of `netlist`.
pub mod Promise
pub mod Places
pub mod Arranging
