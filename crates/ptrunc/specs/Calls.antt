-- The contracts of public calls: the status of an answer, the calls for C, the names of a command's files, and
-- streams of the caller.
pub mod Answers
pub mod Given
pub mod Names
pub mod Streams
