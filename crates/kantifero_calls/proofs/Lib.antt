-- That every place and count of an answer has 32 bits, and that the part told of is the rows an entry carries.
pub mod Bounds
pub mod Counts
pub mod Reading
pub mod Part
pub mod Says
pub mod OneOutcome
