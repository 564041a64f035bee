-- The postcondition of `clear_four_slots`.
use Rattle.std.specs.Prelude.{◌≡◌, ◌≤◌, ◌+◌, length, max}
use Rattle.ptlines.specs.Calls.Slots.{line}
use Rattle.ptlines.specs.Slots.{Slots, total_bytes}

-- The postcondition of `clear_four_slots`: the first four slots were emptied.
pub record ClearFourSlotsPost (before after : Slots) : Type 0 where
  pub slots : length after.lines ≡ length before.lines
  pub emptied : total_bytes after.lines
      + (((length (line before 0) + length (line before 1)) + length (line before 2)) + length (line before 3))
      ≡ total_bytes before.lines
  pub peak : after.peak ≤ max before.peak (total_bytes before.lines)
  pub denied : after.denied ≡ before.denied
