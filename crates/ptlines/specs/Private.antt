-- Definitions that only private functions and proofs use.
pub mod Bounds
pub mod ByteOrder
pub mod InputSource
pub mod Outputs
pub mod ReadLine
pub mod Readers
pub mod Sinks
pub mod Slots
pub mod Sources
