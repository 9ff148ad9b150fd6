-- Names as numbers, searches in tables of them, and the index of a table.
pub mod Packed
pub mod Search
pub mod Ports
pub mod Index
