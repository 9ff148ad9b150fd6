-- Laws of the parts of a block, over plain lists.
pub mod BlockParts
