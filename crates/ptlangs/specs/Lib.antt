-- The definitions of this crate: lists and numbers, the strings and the plan of `tr`, the jobs of the tools, and
-- results of parsing functions. `Calls` is for contracts, `Laws` for theorems, `Private` for private functions.
pub mod Calls
pub mod CutLists
pub mod DelimLists
pub mod Jobs
pub mod Laws
pub mod Numbers
pub mod OutLists
pub mod Private
pub mod Results
pub mod TrChars
pub mod TrClasses
pub mod TrElements
pub mod TrPlan
pub mod TrTables
