-- Where things stand in a table: subtrees, the entries of a folder, an entry's place.
pub mod Subtree
pub mod Entry
