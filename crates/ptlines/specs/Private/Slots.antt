-- The invariants of `Store` and `Slot`: all bytes are counted, and buffers are not much longer than lines. And what
-- it means that missing slots were added to a store.
use Rattle.std.specs.Prelude.{All, ℕ, ◌+◌, ◌*◌, ◌≡◌, ◌≤◌, ◌^◌, false, List, length}
use Rattle.std.specs.Prelude.{map, max}
use Rattle.ptlines.specs.Slots.{Slots, total_bytes}

-- every line is at most 2^63 bytes long, as any slice in memory is
abbrev pub LengthsAreBounded : List (List ℕ) → Type 0
LengthsAreBounded lines = All (λ bytes. length bytes ≤ 2 ^ 63) lines

-- Missing slots were added, and no others. If the store could not grow, some of them may be missing still.
pub record AddedSlots (before store : Slots) (slots : ℕ) : Type 0 where
  pub least : length before.lines ≤ length store.lines
  pub most : length store.lines ≤ max (length before.lines) slots
  pub all : store.denied ≡ false → length store.lines ≡ max (length before.lines) slots

-- ---- the buffers of the slots

-- A slot of the store: its line, and the length of the buffer whose first bytes are the line.
pub record SlotBuffer : Type 0 where
  pub line : List ℕ
  pub buffer_size : ℕ

-- the line in each slot
abbrev pub slot_lines : List SlotBuffer → List (List ℕ)
slot_lines slots = map (λ s. s.line) slots

-- No buffer is longer than twice the peak and 128 bytes, regardless of how many lines its slot has held.
abbrev pub AreBuffersBounded : ℕ → List SlotBuffer → Type 0
AreBuffersBounded peak slots = All (λ s. s.buffer_size ≤ 2 * peak + 128) slots

-- The bytes of all lines are counted, and no line or buffer is too long.
pub record AreCounted (byte_count peak : ℕ) (slots : List SlotBuffer) : Type 0 where
  pub total : byte_count ≡ total_bytes (slot_lines slots)
  pub below_peak : byte_count ≤ peak
  pub lines : LengthsAreBounded (slot_lines slots)
  pub buffers : AreBuffersBounded peak slots

-- A list of `count` slots has room for at most twice as many, and four.
abbrev pub HasFewSpare : ℕ → ℕ → Type 0
HasFewSpare capacity count = capacity ≤ 2 * count + 4

-- The invariant of `Store`.
pub record IsSoundStore (byte_count peak : ℕ) (slots : List SlotBuffer) (capacity count : ℕ) : Type 0 where
  pub counted : AreCounted byte_count peak slots
  pub room : HasFewSpare capacity count

-- The invariant of `Slot`: at least 64 bytes of the buffer follow the line.
pub record IsPadded (size buffer_size : ℕ) : Type 0 where
  pub padding : size + 64 ≤ buffer_size
  pub least : 128 ≤ buffer_size
