-- A line's first word among its words.
pub mod First
