-- The stored block: encode and decode undo each other, and the rules on the words together say "not malformed".
pub mod ListFacts
pub mod Names
pub mod Nodes
pub mod Gates
pub mod Outputs
pub mod WellFormed
pub mod Encoded
pub mod RoundTrip
pub mod Decoded
pub mod Intact
pub mod Sizes
pub mod Readers
