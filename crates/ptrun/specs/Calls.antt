-- The contracts of public calls: to write a message, and to run a command.
pub mod MessageWrites
pub mod Runs
