-- The laws of counting.
pub mod Laws
