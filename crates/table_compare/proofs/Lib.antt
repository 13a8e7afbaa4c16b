-- Laws of capital letters in a word's bytes, and of keys word by word.
pub mod Bytes
pub mod Letters
