-- The modules of lemmas: for a merge, for lines merged in blocks, for `comm` and `join`, and for the laws of their
-- output.
pub mod Common
pub mod AloneLemmas
pub mod BlockLemmas
pub mod CommLemmas
pub mod Parts
pub mod PassedLemmas
pub mod PairLemmas
pub mod RowLemmas
pub mod OutputLaws
pub mod JoinLemmas
pub mod MergeLemmas
