-- The lines of a text and those of a tree, and how many there are.
pub mod Counting
pub mod Lines
pub mod Trees
