-- Where an entry goes in a table, and the table with its row.
pub mod Insert
