-- Lemmas on runs over memory: files in memory, the arguments that C gives, the rooms that are filled, the names of
-- files, and the run itself, from what it read to its answer.
pub mod Below
pub mod FileLemmas
pub mod GivenLemmas
pub mod NamingLemmas
pub mod Unread
pub mod RoomLemmas
pub mod RunLemmas
