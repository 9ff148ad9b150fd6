-- Mathematics of the count of settled settings; no function of src/ is named.
pub mod Counts
pub mod Outcomes
