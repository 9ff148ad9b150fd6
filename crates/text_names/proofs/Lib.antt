-- Laws of names as numbers, over plain lists.
pub mod ListFacts
pub mod Searching
pub mod Packing
pub mod LegalNames
pub mod PortNames
pub mod Lookup
pub mod Indexing
pub mod Repeats
