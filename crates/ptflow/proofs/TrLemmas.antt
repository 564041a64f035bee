-- Theorems about `tr`: how the flags of a set are counted (`FilterSet`), and the output for the rest of a text
-- (`TrFrom`).
pub mod FilterSet
pub mod TrFrom
