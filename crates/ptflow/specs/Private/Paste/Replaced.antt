-- Bytes of which each terminator is replaced: by a delimiter, which may be empty, by one byte, or by the bytes of a
-- cycle in turn. What it means that this is done for the first bytes of a copy (`IsReplacedTo`), and the cycle of the
-- delimiters.
use Rattle.std.specs.Prelude.{◌≡◌, ◌≤◌, ◌==◌, ℕ, ◌+◌, ◌%◌, List, [], ◌∷◌, ◌++◌, Option, length, take}
use Rattle.std.specs.Prelude.{slice_index_or, if◌then◌else◌}
use Rattle.std.specs.List.{count_by}
use Rattle.memchr.specs.Find.{is_byte}
use Rattle.ptflow.specs.PasteText.{delimiter}
use Rattle.ptflow.specs.declared.simd.replace.Cycle.{Cycle}
use Rattle.ptflow.specs.declared.simd.replace.ReplaceTerminator.{ReplaceTerminator}

-- The bytes, with each terminator replaced. `text_of` has the replacement of each terminator by its number; that of the
-- first one is `number`.
abbrev pub with_replacements : ℕ → (ℕ → List ℕ) → ℕ → List ℕ → List ℕ
with_replacements end text_of number [] = []
with_replacements end text_of number (b ∷ bytes) =
    if b == end then text_of number ++ with_replacements end text_of (number + 1) bytes
    else b ∷ with_replacements end text_of number bytes

-- A byte, with the terminator replaced.
abbrev pub with_byte : ReplaceTerminator → ℕ → ℕ
with_byte by b = if b == by.terminator then by.byte else b

-- The byte of a cycle for this terminator.
abbrev pub cycle_byte : Cycle → ℕ → List ℕ
cycle_byte cycle number = slice_index_or cycle.unrolled (number % cycle.len) 0 ∷ []

-- The terminators among the first `at` bytes are replaced from the byte at `first` on, and the next one is at `index`.
pub record IsReplacedTo (cycle : Cycle) (first index at : ℕ) (from to : List ℕ) : Type 0 where
  pub within : at ≤ length from
  pub same : length to ≡ length from
  pub next : index ≡ (first + count_by (is_byte cycle.terminator) (take at from)) % cycle.len
  pub is : take at to ≡ with_replacements cycle.terminator (cycle_byte cycle) first (take at from)

-- A cycle of the delimiters, each of which is one byte.
pub record IsDelimiterCycle (delims : List (Option ℕ)) (end : ℕ) (cycle : Cycle) : Type 0 where
  pub terminator : cycle.terminator ≡ end
  pub len : cycle.len ≡ length delims
  pub bytes : (number : ℕ) → cycle_byte cycle number ≡ delimiter delims number
