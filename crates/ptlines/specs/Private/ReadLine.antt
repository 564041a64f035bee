-- The condition of `fill`, and the contract of its part `move_to_slot`.
use Rattle.std.specs.Prelude.{◌≡◌, ℕ, ◌<◌, ◌≤◌, ◌++◌, length, take, drop}
use Rattle.std.specs.Prelude.{Result, Ok, Err, None, Some}
use Rattle.ptlines.specs.Calls.Readers.{IsSound}
use Rattle.ptlines.specs.Calls.Slots.{line, with_denied, with_line}
use Rattle.ptlines.specs.Readers.{Reader}
use Rattle.ptlines.specs.Slots.{Slots}
use Rattle.ptlines.specs.declared.store.LineFault.{LineFault}
use Rattle.ptlines.specs.declared.store.LineFault.TheVariants.{Memory}

-- The condition of `fill`: no fault was reported, the reader is sound, and the store has the slot.
pub record FillPre (r : Reader) (s : Slots) (slot : ℕ) : Type 0 where
  pub clean : r.fault ≡ None
  pub sound : IsSound r
  pub in_store : slot < length s.lines

-- the condition of `move_to_slot`: `count` bytes are buffered, and the store has the slot
pub record MoveToSlotPre (r : Reader) (s : Slots) (slot count : ℕ) : Type 0 where
  pub within : count ≤ length r.buffered
  pub in_store : slot < length s.lines

-- The effect of `move_to_slot`: the first `count` buffered bytes were appended to the slot, or memory could not be
-- allocated and nothing was moved.
abbrev pub MoveToSlotPost : Reader → Reader → Slots → Slots → ℕ → ℕ → Result (Unit {0}) LineFault → Type 0
MoveToSlotPost old new before after slot count (Ok u) =
    (new ≡ record old { buffered = drop count old.buffered })
    × (after ≡ with_line before slot (line before slot ++ take count old.buffered))
MoveToSlotPost old new before after slot count (Err fault) =
    (new ≡ record old { fault = Some Memory }) × (after ≡ with_denied before) × (fault ≡ Memory)
