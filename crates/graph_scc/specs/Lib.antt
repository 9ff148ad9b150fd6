-- What the contracts of this crate add to the definitions of `netlist` and of crates/graph_gates: the search's clock,
-- layers and their check, leaders with their certificate, what the checks show of a layering, components by transitive
-- closure, and its words of a graph's reads as one value.
pub mod Leaders
pub mod Closure
pub mod Layers
pub mod Search
pub mod Checked
pub mod Edges
