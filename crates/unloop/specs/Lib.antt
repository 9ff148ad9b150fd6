-- What the contracts of this crate add to the definitions of `netlist`: what the program leaves in its slice, and the
-- statement from end to end.
pub mod EndToEnd
pub mod Shown
