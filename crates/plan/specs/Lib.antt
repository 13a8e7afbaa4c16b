-- The plan as words: its items and the rows that they name, and how the code comes to them.
pub mod Items
pub mod Settle
pub mod Writes
