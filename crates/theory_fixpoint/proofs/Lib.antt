-- Three-valued simulation as fixpoint iteration: laws of values, gates, rounds, steps and sweeps.
pub mod Values
pub mod Gates
pub mod Evaluation
pub mod ListFacts
pub mod States
pub mod Counting
pub mod Rounds
pub mod LeastState
pub mod AnyOrder
pub mod Sweep
pub mod InPlace
pub mod Passes
