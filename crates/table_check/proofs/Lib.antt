-- Laws of the last rows of each depth.
pub mod Last
