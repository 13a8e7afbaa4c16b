-- The last row of each depth.
pub mod Last
