-- Laws of set lines and show lines, over plain lists; lower ones first.
pub mod LineSteps
pub mod TableLaws
pub mod ShowLaws
pub mod Outcomes
