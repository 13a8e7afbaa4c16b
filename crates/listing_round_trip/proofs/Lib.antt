-- The round trip over calls.
pub mod Tables
pub mod Calls
