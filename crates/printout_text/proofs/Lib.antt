-- Laws of the printout: Files has a file's text, Runs the plan of three tables of at most 128 rows, Cases C12 and C13,
-- OneOutcome that the contract fixes the bytes.
pub mod Files
pub mod Runs
pub mod Cases
pub mod OneOutcome
