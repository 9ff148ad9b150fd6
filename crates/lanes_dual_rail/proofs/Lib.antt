-- Mathematics of pairs of words; no function of src/ is named.
pub mod BitLaws
pub mod Folding
pub mod LaneLaws
pub mod RoundLaws
pub mod InputLaws
pub mod WordLaws
pub mod Differing
pub mod LaneWordLaws
