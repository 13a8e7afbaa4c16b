-- What taking a word off a line hands back.
pub mod First
