-- Definitions that only private functions and proofs use: the contracts of the driver's steps, tools and engines in a
-- run with the specification that they give a command, and bytes that were pushed but for a block.
pub mod Driver
pub mod Engines
pub mod Joint
pub mod Lag
pub mod Messages
pub mod Operands
pub mod Sequential
pub mod Tools
