-- Laws of a table's growth: Spots has where a name goes in a tree's folder, Grown the table of a tree with an entry more.
mod Search
mod Words
mod Parted
pub mod Spots
pub mod Grown
