-- The modules with definitions for the contracts of the private functions and types of `uniq`: for its runs, their
-- first lines, and the ends of fields.
pub mod BlockRuns
pub mod FieldEnds
pub mod FirstLine
pub mod RunsFrom
