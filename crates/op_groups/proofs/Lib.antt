-- Mathematics of links and of numbering; no function of src/ is named.
pub mod Linking
pub mod Sets
pub mod Leading
pub mod Counted
pub mod Grouping
pub mod Order
pub mod Turns
pub mod Answered
