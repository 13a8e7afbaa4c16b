-- Laws of moves: Faults and Due have the answers that are due, Slots, Names and Given the path that is given, Lookup and Source what
-- it leads to, Pieces, Words and Carry the result's words, Formed that they are a table again, Exact a move where every byte counts, OneOutcome that the
-- contract fixes the outcome.
pub mod Faults
pub mod Due
pub mod Slots
pub mod Names
pub mod Lookup
pub mod Source
pub mod Pieces
pub mod Words
pub mod Carry
pub mod Formed
pub mod Exact
pub mod Given
pub mod OneOutcome
