-- The modules of this crate's proofs.
pub mod Made
