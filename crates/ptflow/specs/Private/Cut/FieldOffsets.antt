-- The fields of a line, also with a delimiter before each, and the index at which a field starts (`IsFieldOffset`).
use Rattle.std.specs.Prelude.{◌≡◌, ℕ, ◌+◌, ◌≤◌, ◌==◌, List, ◌∷◌, length, take, drop, min}
use Rattle.std.specs.List.{flat_map, slice_split}

-- a line is split at every delimiter
abbrev pub fields : ℕ → List ℕ → List (List ℕ)
fields delimiter line = slice_split (λ b. b == delimiter) line

-- the fields, each with a delimiter before it
abbrev pub prefixed_fields : ℕ → List (List ℕ) → List ℕ
prefixed_fields delimiter fs = flat_map (λ field. delimiter ∷ field) fs

-- Field n, counted from 0, starts at this index; or there are at most n fields, and it is the index after the end of
-- the line. With one more delimiter before the line, the first n fields end there, and the others start there.
pub record IsFieldOffset (delimiter n : ℕ) (line : List ℕ) (at : ℕ) : Type 0 where
  pub fits : at ≤ length line + 1
  pub some : min n 1 ≤ at
  pub front : take at (delimiter ∷ line) ≡ prefixed_fields delimiter (take n (fields delimiter line))
  pub back : drop at (delimiter ∷ line) ≡ prefixed_fields delimiter (drop n (fields delimiter line))
  pub later : at ≤ length line → drop n (fields delimiter line) ≡ fields delimiter (drop at line)
