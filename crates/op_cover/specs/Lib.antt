-- What the contracts of this crate add to the definitions of `netlist` and of crates/theory_cover: the arrays that
-- Cover lends, its table of settings, and its table of entries.
pub mod Table
pub mod Primes
