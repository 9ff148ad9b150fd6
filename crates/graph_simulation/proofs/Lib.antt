-- Mathematics of one gate's value and of event-driven simulation; no function of src/ is named.
pub mod Codes
pub mod GateTable
pub mod State
pub mod Outputs
pub mod Starts
pub mod Updates
pub mod Rounds
