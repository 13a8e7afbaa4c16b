-- Laws of listings. The promises: Examples, RoundTrip, Accepted, Keyed; below them, from bytes up, what they rest on.
pub mod Bytes
pub mod Spelling
pub mod Digits
pub mod Solid
pub mod Written
pub mod Spot
pub mod Steps
pub mod RoundTrip
pub mod Ruled
pub mod Parent
pub mod Kept
pub mod Entered
pub mod Accepted
pub mod Keyed
pub mod Examples
