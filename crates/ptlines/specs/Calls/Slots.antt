-- The store after a slot was set or added, or after memory was denied; and the conditions of `swap` and `copy`.
use Rattle.std.specs.Prelude.{ℕ, ◌<◌, ◌≡◌, ◌≢◌, ◌≤◌, true, false, List, [], ◌∷◌, ◌++◌, length}
use Rattle.std.specs.Prelude.{max, slice_set, slice_index_or}
use Rattle.ptlines.specs.Slots.{Slots, total_bytes}

-- the bytes in a slot
abbrev pub line : Slots → ℕ → List ℕ
line s slot = slice_index_or s.lines slot []

-- the condition of `swap`: both slot numbers are below the number of slots
pub record SwapPre (count a b : ℕ) : Type 0 where
  pub a_in : a < count
  pub b_in : b < count

-- the condition of `copy`: both slot numbers are below the number of slots, and they differ
pub record CopyPre (count from to : ℕ) : Type 0 where
  pub from_in : from < count
  pub to_in : to < count
  pub differ : from ≢ to

-- the store after a slot was set to these bytes; the peak rises to the new total if that is greater
abbrev pub with_line : Slots → ℕ → List ℕ → Slots
with_line s slot bytes =
    let lines = slice_set s.lines slot bytes in
    record { lines = lines; peak = max s.peak (total_bytes lines); denied = s.denied }

-- the store with one more slot, which is empty
abbrev pub with_new_slot : Slots → Slots
with_new_slot s = record s { lines = s.lines ++ [] ∷ [] }

-- the store after a request for memory failed
abbrev pub with_denied : Slots → Slots
with_denied s = record s { denied = true }

-- Slots were added until there are at least `slots` of them, or until the store could not grow.
pub record AddedAtLeast (before after : Slots) (slots : ℕ) : Type 0 where
  pub least : length before.lines ≤ length after.lines
  pub all : after.denied ≡ false → slots ≤ length after.lines
