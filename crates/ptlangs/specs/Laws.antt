-- The grammars of the lists and of the strings of `tr`, and theorems: the definitions agree with these grammars, the
-- fault of a string is its first, no string is rejected for lack of memory, and the tables of a plan do what the
-- plan says.
pub mod CutLists
pub mod DelimLists
pub mod Numbers
pub mod OutLists
pub mod TrChars
pub mod TrElements
pub mod TrPlan
pub mod TrReading
pub mod TrTables
