-- The theory of rendering: laws of copies, the rendering as a block, and its agreement with the original.
pub mod ListFacts
pub mod Follows
pub mod PassCount
pub mod CopyCount
pub mod Copies
pub mod Schedule
pub mod Block
pub mod Itself
pub mod Run
pub mod Sound
pub mod Agreement
