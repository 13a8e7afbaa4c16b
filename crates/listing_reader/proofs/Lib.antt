-- Laws of the reader's state: State has what the struct's changes mean, Rows which rows of the table it names, Put an
-- entry put in.
mod State
mod Rows
mod Put
pub mod Placed
