-- What the contracts of inner functions add to the definitions of `netlist`: the answers of single tests.
pub mod Tests
