-- Definitions that only private functions and proofs use: intervals that are sorted, the jobs of `uniq` and `comm`
-- without options, and how the strings of `tr` are read and their arrays paired.
pub mod CutLists
pub mod Jobs
pub mod OutLists
pub mod TrClasses
pub mod TrParsing
