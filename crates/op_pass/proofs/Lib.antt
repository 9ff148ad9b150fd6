-- Mathematics of Pass; no function of src/ is named.
pub mod Sweeps
pub mod Outcomes
