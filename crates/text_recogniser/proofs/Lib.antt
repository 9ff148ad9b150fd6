-- The laws that the proofs of the functions cite: of expressions, of pairs, of keywords, of words and names, and of
-- lines. Assumes nothing.
mod KindWords
pub mod ShortensTerms
mod OperandForms
pub mod OperandLists
mod OperandSteps
pub mod PairSteps
pub mod KeywordLaws
pub mod ListFacts
pub mod Shortens
pub mod Continues
pub mod Chain
pub mod First
mod Words
pub mod Names
mod LineSteps
mod LineChoice
mod Phases
mod Reached
