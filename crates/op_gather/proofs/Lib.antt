-- Mathematics of writing gates in another order; no function of src/ is named.
pub mod Marks
pub mod Written
pub mod Ordered
pub mod Chain
