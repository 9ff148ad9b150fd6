-- Laws on the words of a block: its names, its gates and their operands, straight blocks, and the head.
pub mod NameLaws
mod GateLaws
mod SlotLaws
pub mod StraightLaws
mod HeaderLaws
