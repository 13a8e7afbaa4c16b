-- What is demanded of the calls together: demand 2 of a reconciliation, demand 3 of reconciliations and moves.
pub mod Demand2
pub mod Demand3
pub mod Exact
