-- What a text's layout may be without its tree being another.
pub mod Whole
pub mod Comments
pub mod Said
pub mod Parts
pub mod Order
pub mod Relaid
pub mod Examples
