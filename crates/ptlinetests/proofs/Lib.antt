-- The list of the modules of proved examples in this folder.
mod LagExamples
mod PartsExamples
