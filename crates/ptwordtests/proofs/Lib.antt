-- The list of the modules of proved examples in this folder.
mod CutListExamples
mod DelimListExamples
mod CommandExamples
mod OutListExamples
mod FaultExamples
mod TrClassExamples
mod TrExamples
