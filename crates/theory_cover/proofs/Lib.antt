-- What is proved of covers over any test of settings (Cover, Covered, Blocks: the statements a reader wants), and of
-- the numbers under which a table keeps the soundness of all assignments.
pub mod ListFacts
pub mod Digits
pub mod Agree
pub mod Flat
pub mod Cover
pub mod Covered
pub mod Blocks
pub mod Numbers
pub mod SoundTable
