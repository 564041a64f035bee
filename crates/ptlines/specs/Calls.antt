-- The contracts of public calls.
pub mod Engines
pub mod Lag
pub mod Outputs
pub mod ReadLine
pub mod Readers
pub mod Scan
pub mod Sinks
pub mod Slots
pub mod Text
