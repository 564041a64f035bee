-- The lemmas of this crate: the lists of `cut`, `join` and `paste`, and the strings of `tr`: their grammar, their
-- arrays, and the plan with its shifts.
pub mod Common
pub mod ListElements
pub mod DelimGrammar
pub mod TrGrammar
pub mod TrArrays
pub mod TrShifts
pub mod TrPlans
pub mod TrTexts
