-- Laws of runs and searches that callers cite, and of two subtrees compared.
pub mod Walk
pub mod Same
