-- The modules with laws of the lines of a text, which public functions state: a text has its lines in one way, its
-- complete lines are those up to the last terminator, and a cut between lines keeps the lines.
pub mod Parts
pub mod Text
