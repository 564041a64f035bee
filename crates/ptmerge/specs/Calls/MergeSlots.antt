-- The postcondition of `ensure_four_slots`. A merge uses slots 0 and 1 for its first input, 2 and 3 for the second.
use Rattle.std.specs.Prelude.{◌≡◌, ◌≤◌, ◌<◌, ℕ, true, length, max}
use Rattle.ptlines.specs.Calls.Slots.{line}
use Rattle.ptlines.specs.Slots.{Slots, total_bytes}

-- The postcondition of `ensure_four_slots`: missing slots among the first four were added, and nothing else changed.
pub record EnsureFourSlotsPost (before after : Slots) : Type 0 where
  pub slots : length after.lines ≡ max (length before.lines) 4
  pub same : (slot : ℕ) → line after slot ≡ line before slot
  pub total_bytes : total_bytes after.lines ≡ total_bytes before.lines
  pub peak : after.peak ≡ before.peak
  pub denied : after.denied ≡ before.denied

-- The postcondition of `ensure_four_slots` if the store could not grow: a slot is missing, and the lines are unchanged.
pub record EnsureFourSlotsErrPost (before after : Slots) : Type 0 where
  pub least : length before.lines ≤ length after.lines
  pub few : length after.lines < 4
  pub same : (slot : ℕ) → line after slot ≡ line before slot
  pub total_bytes : total_bytes after.lines ≡ total_bytes before.lines
  pub peak : after.peak ≡ before.peak
  pub denied : after.denied ≡ true
