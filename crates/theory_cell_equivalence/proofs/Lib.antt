-- The sentences hold.
pub mod Judged
pub mod Answers
pub mod Made
