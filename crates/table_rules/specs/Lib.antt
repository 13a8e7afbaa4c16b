-- The row rules of a table, what a check of it finds, and the answer that is due.
pub mod Rules
pub mod Answer
pub mod Refusal
pub mod Contract
pub mod Faults
pub mod Keyed
pub mod Seen
pub mod Examples
