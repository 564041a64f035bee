-- Byte maps of at most four ranges, each with a shift. And what it means that the first bytes of a slice are mapped,
-- by any byte map (`IsMappedTo`).
use Rattle.std.specs.Prelude.{◌≡◌, ◌≤◌, ℕ, ◌+◌, ◌-◌, ◌%◌, List, Option, None, Some, nat_le, length, map, take, sum_by}
use Rattle.std.specs.Prelude.{if◌then◌else◌}
use Rattle.ptlangs.specs.Calls.TrShifts.{shift_at}
use Rattle.ptflow.specs.declared.simd.shift.ShiftRange.{ShiftRange}

-- the value that a range adds to a byte: its shift, if the byte is at most `width` after the first byte
abbrev pub range_delta : ShiftRange → ℕ → ℕ
range_delta s b = if nat_le ((b + (256 - s.first)) % 256) s.width then s.by else 0

-- like `range_delta`, for a range that is given by its first and last byte, if there is one
abbrev pub stretch_delta : Option (ℕ × ℕ × ℕ) → ℕ → ℕ
stretch_delta None b = 0
stretch_delta (Some range) b = shift_at (record { first = range.0; last = range.1; by = range.2 }) b

-- the image of a byte by some ranges
abbrev pub shift_by_ranges : List ShiftRange → ℕ → ℕ
shift_by_ranges ranges b = (b + sum_by (λ range. range_delta range b) ranges) % 256

-- the first `at` bytes are mapped
abbrev pub IsMappedTo : ℕ → (ℕ → ℕ) → List ℕ → List ℕ → Type 0
IsMappedTo at map_byte from to =
    (at ≤ length from) × (length to ≡ length from) × (take at to ≡ map map_byte (take at from))
