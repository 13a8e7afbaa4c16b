-- Demand 2 and demand 3 over calls, and what they rest on.
pub mod Tab
pub mod Made
pub mod Demand2
pub mod Demand3
pub mod Exact
