-- The examples of whole runs, by tool; of how far a run went and of the lag of its output; and of arguments that are
-- no command.
pub mod CommRunExamples
mod JoinRunExamples
mod LagExamples
mod PasteRunExamples
mod UsageExamples
mod RunExamples
mod RunEndExamples
mod TrRunExamples
