-- The theorems of this crate by subject, which the proofs of its functions use, and the names that they import
-- (`Common`).
pub mod Common
pub mod Vectors
pub mod CutLemmas
pub mod Passes
pub mod PasteLemmas
pub mod TrLemmas
pub mod UniqLemmas
pub mod OutputLaws
