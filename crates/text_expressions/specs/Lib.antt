-- What the contracts of this crate add to the definitions of `netlist`: of names and constants, of expressions, of
-- lines and of a whole text.
pub mod Walk
pub mod Leaves
pub mod Lines
pub mod Resolution
