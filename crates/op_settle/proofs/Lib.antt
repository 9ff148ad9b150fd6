-- Mathematics of Settle; no function of src/ is named.
pub mod Settings
pub mod Codes
pub mod Outcomes
