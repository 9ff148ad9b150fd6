-- Laws of records side by side in lanes and of the turns of a call, and the theorem that a sheet is one call of Settle
-- after another.
pub mod SideLaws
pub mod SettledLaws
pub mod LaneRecordLaws
pub mod MaskLaws
pub mod RecordLaws
pub mod TurnLaws
pub mod Walked
pub mod OneByOne
