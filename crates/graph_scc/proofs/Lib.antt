-- Mathematics of layers, of components and of their leaders; no function of src/ is named.
mod Certificate
pub mod Leader
mod Reaching
pub mod Ranges
pub mod Slots
pub mod Layered
pub mod Propositions
