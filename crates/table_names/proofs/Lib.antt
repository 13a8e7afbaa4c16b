-- Laws of words and their bytes, and of a name byte by byte and word by word.
pub mod Words
pub mod Plain
pub mod ByWords
