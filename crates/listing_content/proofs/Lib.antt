-- Laws of the writer: Content has a row's line, Lines all of them.
pub mod Content
pub mod Lines
