-- What the contracts of this crate add to the definitions of `netlist`.
pub mod Places
pub mod Graph
pub mod Decoding
pub mod Fanout
pub mod Legal
