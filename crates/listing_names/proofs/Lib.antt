-- Laws of spelling: one more byte of a word's bytes.
mod Spelling
