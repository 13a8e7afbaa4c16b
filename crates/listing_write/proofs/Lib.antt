-- Due has the answer and the bytes that are due, OneOutcome that the contract fixes both.
pub mod Due
pub mod OneOutcome
