-- The laws of the settle cycle.
pub mod Cycle
