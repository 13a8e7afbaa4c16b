-- That a run answers and leaves what its contract says.
pub mod Accepted
pub mod Planned
pub mod Steps
pub mod OneOutcome
pub mod Exact
