-- Mathematics of graphs; no function of src/ is named.
pub mod Places
pub mod Rules
pub mod Decoding
pub mod Network
pub mod Chains
