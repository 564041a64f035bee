-- The bytes of a cycle: those of the delimiters, and the table that repeats them.
use Rattle.std.specs.Prelude.{◌≡◌, ◌<◌, ◌≤◌, ℕ, ◌+◌, ◌%◌, List, [], ◌∷◌, Option, length, slice_index_or}
use Rattle.ptflow.specs.PasteText.{delimiter}

-- The first `len` bytes, repeated up to 64 from the last of them on.
pub record IsUnrolled (len : ℕ) (bytes : List ℕ) : Type 0 where
  pub some : 0 < len
  pub few : len ≤ 256
  pub at : (number : ℕ) → number < len + 63 → slice_index_or bytes number 0 ≡ slice_index_or bytes (number % len) 0

-- The delimiters after the first `count` columns, each of which is one byte.
pub record AreDelimiterBytes (delims : List (Option ℕ)) (count : ℕ) (bytes : List ℕ) : Type 0 where
  pub few : count ≤ 255
  pub size : length bytes ≡ count
  pub at : (c : ℕ) → c < count → delimiter delims c ≡ slice_index_or bytes c 0 ∷ []
