-- Laws of a list's text that callers cite.
pub mod Path
pub mod Mark
pub mod Words
pub mod Cases
pub mod Sides
pub mod Lines
pub mod Exact
pub mod Length
