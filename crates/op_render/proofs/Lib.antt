-- The mathematics of Render's steps and of its promise; no function of src/ is named.
pub mod Cases
pub mod Told
pub mod Promise
