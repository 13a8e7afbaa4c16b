-- The rows of a part of one table, spelled as another table's are.
pub mod Respell
