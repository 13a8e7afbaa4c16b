-- Laws of the way up from a row, and of a row's path in the table of a tree.
pub mod Above
pub mod Path
