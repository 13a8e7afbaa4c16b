-- Moves: the path that a move is for, the answer that is due, and the room afterwards.
pub mod Path
pub mod Move
pub mod Pieces
