-- Theorems about `cut`: by bytes (`CutBytes`), and by fields (`Fields`).
pub mod CutBytes
pub mod Fields
