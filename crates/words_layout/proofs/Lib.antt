-- Laws on what the readers find that belong to no one function.
pub mod TrimmedLaws
pub mod KindLaws
pub mod MaskLaws
pub mod Gathered
