-- What the contracts of this crate add to the definitions of `netlist`: equal names, where outputs differ, and what a
-- batch of settings holds.
pub mod Interface
pub mod Words
pub mod Ready
pub mod Compared
