-- Laws of bytes that are put one piece after the other, and of the spelling of names, sizes and digests.
pub mod Poured
pub mod Plain
pub mod Spelling
pub mod Digits
