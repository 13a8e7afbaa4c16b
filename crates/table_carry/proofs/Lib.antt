-- Laws of the rows that a list entry carries: what they are of the trees, and that the contract fixes them.
pub mod Checks
pub mod Nodes
pub mod OneOutcome
