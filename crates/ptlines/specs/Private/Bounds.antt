-- Bounds for the vector kernels, which load and store `n` bytes at once. A vector has at most 64 bytes.
use Rattle.std.specs.Prelude.{ℕ, ◌+◌, ◌≤◌, List, length}

-- A vector of the first `n` bytes and one of the last `n` cover all bytes. The two may overlap.
pub record IsCoveredByEnds (n : ℕ) (bytes : List ℕ) : Type 0 where
  pub lanes : n ≤ 64
  pub first : n ≤ length bytes
  pub all : length bytes ≤ n + n

-- the condition of a copy of `n` bytes from the index `from` of one slice to the index `at` of another
pub record CopyChunkPre (n from : ℕ) (bytes : List ℕ) (at : ℕ) (into : List ℕ) : Type 0 where
  pub within : from + n ≤ length bytes
  pub room : at + n ≤ length into
