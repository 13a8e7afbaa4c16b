-- The rows that a list entry carries.
pub mod Carried
