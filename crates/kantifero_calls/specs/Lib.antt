-- What each exported call answers in eight words, and what it leaves in the lent buffers.
pub mod Words
pub mod Carried
pub mod Calls
