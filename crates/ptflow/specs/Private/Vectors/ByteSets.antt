-- Sets of bytes as two bit tables (`set_has`, `IsSetOf`), and the lane mask of the bytes that pass a test. Also the
-- bytes that a filter keeps: all but those of the set that are equal to the bytes they are compared with.
use Rattle.std.specs.Prelude.{◌≡◌, ◌<◌, ◌≤◌, ℕ, ◌+◌, ◌/◌, ◌%◌, ◌==◌, Bool, false, List, nat_lt, length, map, filter, zip}
use Rattle.std.specs.Prelude.{slice_index, slice_index_or, if◌then◌else◌, ℤ, pos, negsuc}
use Rattle.std.specs.Int.{bit_at}
use Rattle.std.specs.Simd.Lanes.{zip2}
use Rattle.ptflow.specs.TrOutput.{is_not_repeat}
use Rattle.ptflow.specs.declared.simd.byte_set.ByteSet.{ByteSet}
use Rattle.ptlines.specs.declared.sizes.TheConstants.{BLOCK}

-- A table of 128 bytes: the low nibble of a byte selects the entry, and the high nibble the bit that is set.
abbrev pub table_has : List ℕ → ℕ → Bool
table_has table b = bit_at (slice_index table (b % 16)) (b / 16 % 8) == 1

-- a byte is in the set: `low` is the table of the bytes below 128, and `high` that of the others
abbrev pub set_has : ByteSet → ℕ → Bool
set_has set b = table_has (if nat_lt b 128 then set.low else set.high) b

-- the set has exactly the bytes whose flag is set
abbrev pub IsSetOf : ByteSet → List Bool → Type 0
IsSetOf set flags = (b : ℕ) → b < 256 → set_has set b ≡ slice_index_or flags b false

-- the lane mask of the bytes that pass a test: all bits of their lanes are set, and no others
abbrev pub mask_of : (ℕ → Bool) → List ℕ → List ℤ
mask_of test v = map (λ b. if test b then negsuc 0 else pos 0) v

-- which bytes are kept: one that passes the test is removed if it is equal to the one at its index in `before`
abbrev pub keep_flags : (ℕ → Bool) → List ℕ → List ℕ → List Bool
keep_flags test before bytes = zip2 (λ a b. is_not_repeat test (a, b)) before bytes

-- the bytes that are kept
abbrev pub kept_bytes : (ℕ → Bool) → List ℕ → List ℕ → List ℕ
kept_bytes test before bytes = map (λ (pair : ℕ × ℕ). pair.1) (filter (is_not_repeat test) (zip before bytes))

-- index `at` is in the bytes, and the buffer has room for those from there on after the `count` bytes kept before
pub record FilterPre (bytes : List ℕ) (at count : ℕ) : Type 0 where
  pub within : at ≤ length bytes
  pub room : count + length bytes ≤ BLOCK + at
