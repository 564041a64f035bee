-- Laws of the definitions, which public functions state: of the output for whole inputs, and of inputs in parts.
pub mod Outputs
pub mod Parts
