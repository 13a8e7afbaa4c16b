-- What mtree text means, from bytes to trees, and the text of a tree.
pub mod Bytes
pub mod Lines
pub mod Words
pub mod Names
pub mod Values
pub mod Entries
pub mod Reading
pub mod Writing
pub mod Accepted
pub mod Keyed
pub mod RoundTrip
pub mod Examples
