-- The lemmas of this crate: the fields of the failing allocator, reads of the fake sources, and the words of
-- examples.
pub mod FailingAllocParts
pub mod RepeatedBytes
pub mod SplitWords
