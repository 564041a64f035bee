-- Definitions that only private functions and proofs use.
pub mod Commands
pub mod Faults
pub mod Jobs
pub mod ParseSteps
pub mod Syntax
pub mod Tokens
