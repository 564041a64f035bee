-- Definitions that only private functions and proofs use: the exit status of an answer, files in memory with their
-- state, and the sinks in memory.
pub mod Answers
pub mod Files
pub mod MemoryFiles
pub mod Rooms
