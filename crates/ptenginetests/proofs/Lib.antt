-- Worked examples of the specifications of each tool, of the theorems on whole outputs and on inputs in parts, and of
-- the lag of an output.
mod CommExamples
mod CutExamples
mod JoinExamples
mod LagExamples
mod MergePartsExamples
mod PartsExamples
mod LawExamples
mod PasteExamples
mod TrExamples
mod UniqExamples
