-- What writing and reading promise together.
pub mod Calls
