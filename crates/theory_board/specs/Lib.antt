-- The statement that the board rests on.
pub mod WholeWay
