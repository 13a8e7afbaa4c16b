-- What a line does to struct and table.
pub mod Takes
