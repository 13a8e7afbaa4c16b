-- Laws of words that are lowered.
pub mod Words
