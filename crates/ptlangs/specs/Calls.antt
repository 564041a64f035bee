-- The contracts of public calls: what errors of lists report, intervals and fields, jobs without options, results of
-- parsing functions, and the plan of `tr` as tables and as shifts.
pub mod CutLists
pub mod DelimLists
pub mod Jobs
pub mod OutLists
pub mod Results
pub mod TrParsing
pub mod TrPlan
pub mod TrShifts
pub mod TrTables
