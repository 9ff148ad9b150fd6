-- The laws of reach, groups and their order.
pub mod ListFacts
pub mod Counting
pub mod Reach
pub mod Inside
pub mod SameGroup
pub mod Next
pub mod Order
pub mod GroupNumber
pub mod Build
pub mod Straight
