-- Definitions that only private functions and proofs use: calls of `Files`, opened inputs, outputs, streams as
-- files, and readers that have failed.
pub mod Failures
pub mod Files
pub mod Outputs
pub mod Shell
pub mod Streams
