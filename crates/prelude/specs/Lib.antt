-- Definitions on lists and numbers, and nothing of netlists.
pub mod Lists
