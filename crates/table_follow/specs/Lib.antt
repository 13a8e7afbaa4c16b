-- Where a path leads in a table.
pub mod Follow
