-- The laws of the output of `comm` and `join` for whole inputs.
pub mod Keys
pub mod Counts
pub mod Columns
pub mod Sorted
