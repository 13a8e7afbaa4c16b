-- Laws of reading: Going has the loop over the lines, Ended a text's form and its end, Answered a whole text, OneOutcome
-- that the contract fixes the answer and the table.
mod Going
mod Ended
pub mod Answered
pub mod OneOutcome
