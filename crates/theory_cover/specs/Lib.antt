-- The cover (prime implicants) over any test of settings, and the tables from which code finds it.
pub mod Over
pub mod Digits
pub mod Tables
pub mod Entries
