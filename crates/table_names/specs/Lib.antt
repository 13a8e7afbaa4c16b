-- The low bytes of a word, and words looked at whole.
pub mod Low
pub mod Plain
