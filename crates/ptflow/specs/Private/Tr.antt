-- The modules with definitions for the contracts of the private functions and types of `tr`: for the kinds of maps,
-- and for the output for the rest of a text.
pub mod MapKinds
pub mod TrFrom
