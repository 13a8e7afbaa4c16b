-- A reconciliation's list as text: of its lines, and of its words.
pub mod Text
pub mod Words
pub mod Sides
pub mod Spelled
pub mod Cases
