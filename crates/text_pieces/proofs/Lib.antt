-- Mathematics of pieces of text, and of what an operation with enough room shows; no function of src/ is named.
pub mod Lines
pub mod Told
pub mod Sizes
pub mod Appending
pub mod DecimalLaws
pub mod NameLaws
pub mod TrimLaws
pub mod OperandLaws
