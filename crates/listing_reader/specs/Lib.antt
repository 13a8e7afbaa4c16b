-- The reader's struct and table as a state of reading, and what its functions do to that state.
pub mod State
pub mod Does
