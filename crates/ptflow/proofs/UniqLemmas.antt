-- Theorems about `uniq`: the key of a line (`Keys`), and the runs of lines with equal keys (`Runs`).
pub mod Keys
pub mod Runs
