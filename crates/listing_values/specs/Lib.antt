-- What reading a value hands back.
pub mod Values
