-- The lines of a store, their total length, and the bounds of lines and buffers, after one slot is set, two are
-- exchanged, or the line of one is appended or copied to another. The total changes by the difference of two
-- lengths, and always fits 128 bits. `store_of` is the model of a store with these slots.
use Rattle.ptlines.proofs
use Rattle.std.proofs.lemmas
use proofs.Common.{◌≡◌, ◌≢◌, ℕ, ◌+◌, ◌*◌, ◌^◌, ◌<◌, ◌≤◌, List, [], ◌∷◌, ◌++◌, length, take, drop, get_or}
use proofs.Common.{sym, ◌∙◌, ap, arith, set, Bool, subst, refl, max, set-set, swap, length-map, Slots}
use proofs.Common.{line, total_bytes, with_line, rules, usual}
use Rattle.ptlines.specs.Private.Slots.{SlotBuffer, slot_lines, AreBuffersBounded, AreCounted, LengthsAreBounded}
use lemmas.List.{map-set, get_or-map, set-get_or, take-set, drop-set-add, drop-set-lt, take-append-drop}
use Rattle.std.proofs.Math.Seq.{take-set-lt}
use lemmas.List.Elements.{All-set}
use lemmas.List.Sums.{sum_by-le}
use lemmas.List.Sorted.{sum_by-IsPermutation, IsPermutation-swap}

pub total_bytes_set : (lines : List (List ℕ)) (slot : ℕ) (bytes : List ℕ) → slot < length lines
    → total_bytes (set lines slot bytes) + length (get_or lines slot []) ≡ total_bytes lines + length bytes
total_bytes_set = grind usual

pub total_fits : {byte_count peak : ℕ} (slots : List SlotBuffer) (more : ℕ) → AreCounted byte_count peak slots
    → length slots < 2 ^ 63 → more < 2 ^ 64 → byte_count + more < 2 ^ 128
total_fits slots _ counted few small =
    omega (arith, sum_by-le length _ _ counted.lines, counted.total, length-map slots (λ s. s.line))

abbrev pub IsBounded : List ℕ → Type 0
IsBounded bytes = length bytes ≤ 2 ^ 63

abbrev pub HasBoundedBuffer : ℕ → SlotBuffer → Type 0
HasBoundedBuffer peak slot = slot.buffer_size ≤ 2 * peak + 128

module _ {X : Type 0} where
  pub set_after_split : (xs : List X) (at : ℕ) (w : X) → take at xs ++ set (drop at xs) 0 w ≡ set xs at w
  set_after_split xs at w = grind (arith, take-set, drop-set-add at xs 0 w, take-append-drop at (set xs at w))

  pub set_before_split : (xs : List X) (at cut : ℕ) (w : X) → at < cut
      → set (take cut xs) at w ++ drop cut xs ≡ set xs at w
  set_before_split xs at cut w near =
      cc (take-set-lt cut xs at w near, drop-set-lt cut xs at w near, take-append-drop cut (set xs at w))

  All-swap : (P : X → Type 0) (xs : List X) (a b : ℕ) → a < length xs → b < length xs
      → ((k : ℕ) (d : X) → k < length xs → P (get_or xs k d)) → (k : ℕ) (d : X) → k < length (swap xs a b)
      → P (get_or (swap xs a b) k d)
  All-swap P [] a b a_in b_in all = all
  All-swap P (x ∷ more) a b a_in b_in all =
      All-set P _ b _ (grind arith) (All-set P (x ∷ more) a _ (grind arith) all)

abbrev pub line_of : SlotBuffer → List ℕ
line_of slot = slot.line

pub total_bytes_swap : (lines : List (List ℕ)) (a b : ℕ) → a < length lines → b < length lines
    → total_bytes (swap lines a b) ≡ total_bytes lines
total_bytes_swap _ a b a_in b_in = sum_by-IsPermutation _ _ _ (IsPermutation-swap _ _ a b a_in b_in refl)

pub slot_lines-swap : (slots : List SlotBuffer) (a b : ℕ) → a < length slots → b < length slots
    → slot_lines (swap slots a b) ≡ swap (slot_lines slots) a b
slot_lines-swap [] a b a_in b_in = refl
slot_lines-swap _ a b a_in b_in = grind (arith, map-set, get_or-map)

pub counted_after_swap : (slots : List SlotBuffer) (a b : ℕ) {byte_count peak : ℕ} → a < length slots → b < length slots
    → AreCounted byte_count peak slots → AreCounted byte_count peak (swap slots a b)
counted_after_swap slots a b {byte_count} {peak} a_in b_in counted =
    let lines = slot_lines slots in
    let a_low : a < length lines = grind usual in
    let b_low : b < length lines = grind usual in
    let is = slot_lines-swap slots a b a_in b_in in
    record {
      total = grind (arith, total_bytes_swap);
      below_peak = counted.below_peak;
      lines = subst LengthsAreBounded (sym is) (All-swap IsBounded lines a b a_low b_low counted.lines);
      buffers = All-swap (HasBoundedBuffer peak) slots a b a_in b_in counted.buffers;
    }

-- one slot is set, from `had` to `new`
module _ (slots after : List SlotBuffer) (slot : ℕ) (had new : SlotBuffer) (within : slot < length slots)
    (is : after ≡ set slots slot new) (was : had ≡ get_or slots slot had) where
  low : slot < length (slot_lines slots)
  low = grind (arith, length-map)

  line_was : had.line ≡ get_or (slot_lines slots) slot []
  line_was = grind usual

  lines_are : slot_lines after ≡ set (slot_lines slots) slot new.line
  lines_are = grind (arith, map-set)

  pub lengths_after_set : length new.line ≤ 2 ^ 63 → LengthsAreBounded (slot_lines slots)
      → LengthsAreBounded (slot_lines after)
  lengths_after_set = search (rules, lines_are)

  -- the new line is a part of the new total, so a buffer that grows to twice its length stays below the bound
  pub buffers_after_set : new.buffer_size ≤ max had.buffer_size (2 * length new.line + 64) → (peak : ℕ)
      → total_bytes (slot_lines after) ≤ peak → AreBuffersBounded peak slots → AreBuffersBounded peak after
  buffers_after_set = grind (usual, lines_are, total_bytes_set)

  -- the line of another slot was appended
  pub lines_appended : (from : ℕ) (e : SlotBuffer) → from < length slots
      → new.line ≡ had.line ++ (get_or slots from e).line → slot_lines after
      ≡ set (slot_lines slots) slot (get_or (slot_lines slots) slot [] ++ get_or (slot_lines slots) from [])
  lines_appended from e from_in new_is = lines_are ∙ ap (set (slot_lines slots) slot) (grind usual)

-- A slot that was `had` is set to another one: the old line was part of the total.
module _ (slots : List SlotBuffer) (slot : ℕ) {byte_count before : ℕ} (had : SlotBuffer) (within : slot < length slots)
    (was : had ≡ get_or slots slot had) (counted : AreCounted byte_count before slots) where
  pub line_le_total : length had.line ≤ byte_count
  line_le_total =
      let same = sym (set-get_or slots slot had) ∙ ap (set slots slot) (sym was) in
      omega (
        arith,
        total_bytes_set (slot_lines slots) slot [] (grind (arith, low)),
        ap length (line_was slots slots slot had had within same was),
      )

  pub counted_after_set : (new : SlotBuffer) {now peak : ℕ} → length new.line ≤ 2 ^ 63
      → new.buffer_size ≤ max had.buffer_size (2 * length new.line + 64)
      → now + length had.line ≡ byte_count + length new.line → now ≤ peak → before ≤ peak
      → AreCounted now peak (set slots slot new)
  counted_after_set new {now} {peak} few room moves less more =
      let after = set slots slot new in
      let total : now ≡ total_bytes (slot_lines after) =
      omega (
        arith,
        ap total_bytes (lines_are slots after slot had new within refl was),
        total_bytes_set (slot_lines slots) slot new.line (grind usual),
        ap length (line_was slots after slot had new within refl was),
      ) in
      record {
        total = total;
        below_peak = less;
        lines = search (rules, lengths_after_set);
        buffers = buffers_after_set slots after slot had new within refl was room _ (grind arith) (grind arith);
      }

pub same_slot : (slots : List SlotBuffer) (slot : ℕ) {a b : SlotBuffer} → slot < length slots → a ≡ get_or slots slot a
    → b ≡ get_or slots slot b → a ≡ b
same_slot = grind usual

-- the model of a store
abbrev pub store_of : List SlotBuffer → ℕ → Bool → Slots
store_of slots peak denied = record { lines = slot_lines slots; peak = peak; denied = denied }

module _ (slots : List SlotBuffer) {peak : ℕ} {denied : Bool} {now : Slots} (slot : ℕ)
    (is : store_of slots peak denied ≡ now) where
  pub slot_in_range : slot < length now.lines → slot < length slots
  slot_in_range = grind usual

  pub line_before : {had : SlotBuffer} → slot < length slots → had ≡ get_or slots slot had → had.line ≡ line now slot
  line_before = grind usual

  pub store_after_set : (new : SlotBuffer) {bytes : List ℕ} {byte_count peak_now : ℕ} → new.line ≡ bytes
      → byte_count ≡ total_bytes (slot_lines (set slots slot new)) → peak_now ≡ max peak byte_count
      → store_of (set slots slot new) peak_now denied ≡ with_line now slot bytes
  store_after_set new {bytes} new_is counts peak_is = grind (arith, map-set)

-- the slot `to` was emptied, and the line of `from` appended
pub copy_lines : (lines cleared after : List (List ℕ)) (from to : ℕ) → from ≢ to → to < length lines
    → cleared ≡ set lines to [] → after ≡ set cleared to (get_or cleared to [] ++ get_or cleared from [])
    → after ≡ set lines to (get_or lines from [])
copy_lines _ _ _ _ to differ to_in cleared_is after_is = search (rules, set-set)
