-- What the contracts of this crate add to the definitions of `netlist`: where a line breaks, the tables of its pairs,
-- and the show line.
pub mod Line
pub mod Tables
pub mod Shown
