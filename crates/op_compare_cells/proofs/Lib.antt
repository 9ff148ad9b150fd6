-- Laws on cells under many settings, and on comparing them with a block, that belong to no one function.
pub mod Differences
pub mod Choosing
pub mod Running
pub mod Decoding
pub mod Evaluating
pub mod Searching
pub mod Chain
