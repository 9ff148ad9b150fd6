-- What the contracts of this crate add to the definitions of `netlist`: the values at all places, one gate's value, and
-- rounds.
pub mod Legal
pub mod State
pub mod Rounded
pub mod Changes
pub mod Found
