-- The rules of a stored block, word by word.
pub mod Rules
