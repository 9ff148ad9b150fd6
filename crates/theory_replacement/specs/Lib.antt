-- A group of gates in a netlist, what replaces it, and what is claimed of that.
pub mod Placing
pub mod Group
pub mod Replaced
pub mod Claim
pub mod Several
pub mod Example
