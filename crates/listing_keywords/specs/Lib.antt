-- What a line's words say: Found has a search for keywords, Entries the line's type and what its entry holds.
pub mod Found
pub mod Entries
