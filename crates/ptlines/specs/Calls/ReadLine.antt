-- The effect of the calls `fill` and `block` of a reader, on the reader and on the store.
use Rattle.std.specs.Prelude.{◌≡◌, ◌⊎◌, ℕ, ◌<◌, Bool, true, false, List, [], ◌∷◌, ◌++◌, length, Option}
use Rattle.std.specs.Prelude.{Result, Ok, Err, None, Some}
use Rattle.std.specs.Borrow.{Bor}
use Rattle.ptlines.specs.Calls.Readers.{AdvanceErr, AdvanceOk, HasReadCause, IsSound, budget}
use Rattle.ptlines.specs.Calls.Slots.{with_denied, with_line}
use Rattle.ptlines.specs.Calls.Text.{IsLine}
use Rattle.ptlines.specs.Readers.{IsDone, Reader}
use Rattle.ptlines.specs.Slots.{Slots}
use Rattle.ptlines.specs.declared.store.LineFault.{LineFault}
use Rattle.ptlines.specs.declared.store.LineFault.TheVariants.{Memory, Read}

-- The slot holds the next line. Its terminator was consumed, or it is the incomplete last line of the input.
pub record FillLine (old new : Reader) (before after : Slots) (slot : ℕ) : Type 0 where
  pub line : List ℕ
  pub terminator : List ℕ
  pub advance_ok : AdvanceOk old new (line ++ terminator)
  pub whole : IsLine old.terminator line
  pub ends : (terminator ≡ old.terminator ∷ []) ⊎ ((terminator ≡ []) × (0 < length line) × IsDone new)
  pub stored : after ≡ with_line before slot line
  pub less : budget new < budget old

-- A read failed; the slot holds a prefix of the next line.
pub record FillReadErr (old new : Reader) (before after : Slots) (slot : ℕ) : Type 0 where
  pub piece : List ℕ
  pub faults : AdvanceErr old new piece Read
  pub cause : HasReadCause old new
  pub stored : after ≡ with_line before slot piece

-- Memory could not be allocated; the slot holds a prefix of the next line, and the rest is still buffered.
pub record FillMemoryErr (old new : Reader) (before after : Slots) (slot : ℕ) : Type 0 where
  pub piece : List ℕ
  pub faults : AdvanceErr old new piece Memory
  pub failed : new.failed ≡ old.failed
  pub stored : after ≡ with_denied (with_line before slot piece)
  pub left : 0 < length new.buffered

-- the effect of `fill`: `true` if the slot holds the next line, `false` if there is no further line
abbrev pub FillPost : Reader → Reader → Slots → Slots → ℕ → Result Bool LineFault → Type 0
FillPost old new before after slot (Ok true) = FillLine old new before after slot
FillPost old new before after slot (Ok false) = AdvanceOk old new [] × IsDone new × (after ≡ with_line before slot [])
FillPost old new before after slot (Err Read) = FillReadErr old new before after slot
FillPost old new before after slot (Err Memory) = FillMemoryErr old new before after slot

-- the result of `block` without an earlier fault: the buffered bytes, none at the end of input; or a failed read
abbrev pub BlockResult : Reader → Reader → Result (Bor (List ℕ)) LineFault → Type 0
BlockResult old new (Ok bytes) = AdvanceOk old new [] × (new.buffered ≡ bytes.now) × (bytes.now ≡ [] → IsDone new)
BlockResult old new (Err fault) = AdvanceErr old new [] Read × HasReadCause old new × (fault ≡ Read)

-- a fault that was reported before is reported again
abbrev pub RepeatsFault : {X : Type 0} → Reader → Reader → Option LineFault → Result X LineFault → Type 0
RepeatsFault old new None result = Unit {0}
RepeatsFault old new (Some fault) result = (result ≡ Err fault) × (new ≡ old)

-- the effect of `block`
pub record BlockPost (old new : Reader) (result : Result (Bor (List ℕ)) LineFault) : Type 0 where
  pub shows : old.fault ≡ None → BlockResult old new result
  pub repeats : RepeatsFault old new old.fault result
  -- nothing is read while bytes are buffered
  pub buffered : 0 < length old.buffered → new ≡ old
  pub was_sound : IsSound old
  pub is_sound : IsSound new
