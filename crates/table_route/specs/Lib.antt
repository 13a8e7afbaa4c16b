-- The path of a row of a table.
pub mod Route
