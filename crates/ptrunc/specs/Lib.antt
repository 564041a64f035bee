-- The specification of runs over memory: their inputs, the contract of a run, the contracts of the other calls, and
-- private definitions.
pub mod Results
pub mod Inputs
pub mod Calls
pub mod Private
