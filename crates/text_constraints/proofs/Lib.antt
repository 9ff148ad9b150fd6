-- Laws of never lines, over plain lists; lower ones first.
pub mod NeverText
pub mod RunLaws
pub mod TreePlaces
pub mod OneLine
pub mod LineWalk
