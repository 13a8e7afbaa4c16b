-- Theorems on the layout of texts.
pub mod Whole
pub mod Comments
pub mod Runs
pub mod Said
pub mod Sorts
pub mod Does
pub mod Good
pub mod Siblings
pub mod Merge
pub mod Fill
pub mod Place
pub mod Parts
pub mod Order
pub mod Relaid
pub mod Examples
pub mod Stretches
