-- The modules with laws of the definitions, which public functions state: of the output for a whole input, and of the
-- output for an input that is cut into parts.
pub mod Outputs
pub mod Parts
