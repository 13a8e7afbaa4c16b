-- What reading a name hands back.
pub mod Names
