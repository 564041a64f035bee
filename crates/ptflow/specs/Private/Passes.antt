-- The modules with definitions for the loops over one input, by blocks and by lines, and for one step of a tool.
pub mod BlockLoop
pub mod LineLoop
pub mod StepOutput
