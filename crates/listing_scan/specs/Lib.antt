-- Places in a text, and bytes that are passed many at a time.
pub mod Places
pub mod Plain
