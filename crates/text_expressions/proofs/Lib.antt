-- Laws of the walk over operands, expressions and lines, over plain lists and trees.
mod Keywords
pub mod Lookups
mod Openings
pub mod Closings
pub mod Walking
pub mod Fronts
pub mod ListFacts
pub mod LineSteps
pub mod BlockSize
pub mod LineForms
pub mod UsedPlaces
pub mod WholeText
pub mod Answers
