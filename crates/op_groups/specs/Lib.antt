-- What the contracts of this crate add to the definitions of `netlist`: linked lists of places by their key, and Kahn's
-- algorithm on arrays.
pub mod Links
pub mod Numbering
pub mod Ready
pub mod Waiting
pub mod Underway
