-- Laws on cells that belong to no one function.
pub mod TruthWords
pub mod Bits
pub mod Running
pub mod Made
pub mod Earlier
pub mod Agree
pub mod Outcomes
