-- Three tables looked at through a row number of each.
pub mod Cursor
pub mod Three
