-- Where the nodes of a tree stand among the rows of its table.
pub mod Stands
pub mod Around
