-- Theorems about the definitions, which public functions state: when a run has no message, and that the whole output is
-- what is decided.
pub mod Decided
pub mod Silence
