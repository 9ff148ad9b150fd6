-- What the contracts of this crate add to the definitions of `netlist`: cells under many settings, where they and a
-- block differ, and the search over settings.
pub mod Words
pub mod Choices
pub mod Table
pub mod CellLanes
pub mod Ready
pub mod Found
pub mod Miter
