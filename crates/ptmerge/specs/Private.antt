-- Definitions that only private functions and proofs use.
pub mod BlockLines
pub mod Comm
pub mod Join
pub mod JoinFields
pub mod JoinGroup
pub mod MergeCall
pub mod MergeSlots
pub mod OrderLaws
pub mod Passed
pub mod Write
pub mod WriteAndAdvance
