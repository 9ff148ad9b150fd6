-- Laws of lines and of their counts, over plain lists.
pub mod Behind
pub mod TreeCounts
pub mod Scanning
pub mod Starts
pub mod JoinedLines
pub mod TreeLines
