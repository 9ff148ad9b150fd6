-- What the answers of CompareCells say, as sentences over settings and outputs.
pub mod Sentences
