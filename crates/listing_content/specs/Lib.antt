-- A table's text, row by row.
pub mod Rows
