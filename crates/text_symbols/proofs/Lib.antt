-- Laws of the tables of declarations, over plain lists.
pub mod FillSteps
pub mod TreeWalk
pub mod Room
pub mod TreeTable
pub mod TreeSearch
