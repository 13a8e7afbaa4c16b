-- Counting a list's entries by kind.
pub mod Count
