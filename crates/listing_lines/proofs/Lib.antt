-- Laws of what a line does: Alters has the outcomes of lines that leave the table.
pub mod Alters
pub mod Entry
pub mod Words
