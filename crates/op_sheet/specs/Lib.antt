-- What the contracts of this crate add to the definitions of `netlist`: records side by side in lanes, and the turns of
-- a call.
pub mod Records
pub mod Masks
pub mod Side
pub mod Order
