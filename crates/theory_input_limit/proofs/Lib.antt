-- The proofs of what specs/ claims of the earlier and today's limit of inputs.
pub mod InputLimit
pub mod Largest
