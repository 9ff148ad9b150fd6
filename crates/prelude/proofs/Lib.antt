-- Facts on Bools, numbers and lists that two or more crates use, each stated once.
pub mod Tests
pub mod Elements
pub mod Slices
pub mod Tab
pub mod Quantifiers
pub mod Same
pub mod Least
pub mod Lists
pub mod Stores
pub mod Filling
pub mod Tabled
pub mod Tested
pub mod Counting
pub mod Ranges
pub mod Places
pub mod Below
