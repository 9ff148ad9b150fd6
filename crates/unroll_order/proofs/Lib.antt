-- Mathematics of listing groups; no function of src/ is named.
pub mod Listing
pub mod Sums
pub mod Parts
pub mod Walking
pub mod Blocks
