-- Laws of keywords: Found has one more word of a search and what a search tells, Entries the types and entries, Numbers what a caller knows by
-- an entry's number and words.
pub mod Found
pub mod Entries
pub mod Numbers
