-- Mathematics of batches of settings: outputs, settled settings, never lines; no function of src/ is named.
pub mod OutputLaws
pub mod SettledLaws
pub mod NeverLaws
pub mod Counting
pub mod Batching
