-- What the contracts of this crate add to the definitions of `netlist`: what its readers answer, without their trees,
-- of pairs, of keywords, of words and names, and of lines. Assumes nothing.
pub mod Pairs
pub mod Keywords
pub mod Readers
pub mod Scan
