-- The lemmas of this crate: opened inputs, failed reads, the output, runs over files and over streams, the words of
-- a text, and records of calls.
pub mod FailedReads
pub mod Inputs
pub mod Outputs
pub mod Runs
pub mod StreamLemmas
pub mod WordLemmas
mod CallsMade
mod GhostBytesMade
