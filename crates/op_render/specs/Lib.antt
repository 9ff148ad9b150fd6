-- What the contracts of this crate add to the definitions of `netlist`: what its steps need and leave, and Render's
-- whole promise.
pub mod Steps
pub mod Promise
