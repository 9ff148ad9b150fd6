-- Mathematics of Cover's answer: the tables that the code keeps, the steps of its loops, and the whole cover; no
-- function of src/ is named.
mod Subsets
mod PairWalk
mod Bounds
mod Weights
mod Joining
mod Counting
mod Dropping
mod Rows
pub mod Listing
pub mod TableCover
pub mod Flags
pub mod Outcomes
