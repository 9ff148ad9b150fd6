-- Mathematics of batches; no function of src/ is named.
pub mod Sweeping
pub mod Inputs
pub mod Layering
pub mod Starting
