-- The theorem from end to end, and the laws that the proofs of `convert` cite: the room that the operations need, and
-- one operation after another.
pub mod EndToEnd
pub mod Telling
pub mod Sizes
