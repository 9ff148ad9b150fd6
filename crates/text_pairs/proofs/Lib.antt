-- Laws of lines of pairs, over plain lists; lower ones first.
pub mod PairPlaces
pub mod NameTests
pub mod GivenValues
pub mod TableLaws
pub mod NumberLaws
