-- A call of an engine: what it read, wrote and stored, and how it ended.
use Rattle.std.specs.Prelude.{◌≡◌, ◌≢◌, ◌⊎◌, ◌≤◌, ◌<◌, ◌^◌, ◌==◌, ℕ, Bool, true, false, List, Option, Some, None}
use Rattle.std.specs.Prelude.{length, max, if◌then◌else◌}
use Rattle.ptlines.specs.Engines.{EngineSpec, is_in}
use Rattle.ptlines.specs.Calls.Lag.{BoundedLag}
use Rattle.ptlines.specs.Calls.Outputs.{Output, PushEffect}
use Rattle.ptlines.specs.Calls.Readers.{HasReadCause}
use Rattle.ptlines.specs.Calls.Slots.{AddedAtLeast}
use Rattle.ptlines.specs.Readers.{IsDone, Reader}
use Rattle.ptlines.specs.Received.{HasReceived, IsConsistent, IsPrefix, Received}
use Rattle.ptlines.specs.Slots.{Slots, total_bytes}

-- The names of the inputs: which of them a call reads, and whether two of them name one input, as they do if they are
-- equal.
pub record InputNames (I : Type 0) : Type 0 where
  pub is_read : I → Bool
  pub is_same : I → I → Bool

-- The inputs at the indices in a list.
abbrev pub inputs_at : List ℕ → InputNames ℕ
inputs_at indices = record { is_read = is_in indices; is_same = λ i j. i == j }

-- A function that is `x` at one input and `f` at all others.
abbrev pub with_input : {I X : Type 0} → InputNames I → I → X → (I → X) → I → X
with_input names input x f other = if names.is_same other input then x else f other

-- The readers, the output and the store of a call.
pub record CallState (I : Type 0) : Type 0 where
  pub reader : I → Reader
  pub out : Output
  pub store : Slots

-- The state made of its three parts.
abbrev pub call_state : {I : Type 0} → (I → Reader) → Output → Slots → CallState I
call_state reader out store = record { reader = reader; out = out; store = store }

-- The terminator of a reader after a call of an engine, given the one before it.
abbrev pub terminator_after : {I : Type 0} → EngineSpec I → ℕ → ℕ
terminator_after engine before = if engine.keeps_terminator then before else engine.terminator

-- How a call ended: with all of its output, with a fault, or at a line of an input that is out of order.
pub data CallEnd (I : Type 0) : Type 0 where
  Complete : CallEnd I
  OutOfOrder : I → ℕ → CallEnd I
  ReadFault : I → CallEnd I
  WriteFault : CallEnd I
  MemoryFault : CallEnd I

module _ {I : Type 0} (names : InputNames I) where
  -- Texts from which the received parts may come.
  abbrev pub AreAllConsistent : (I → Received) → (I → List ℕ) → Type 0
  AreAllConsistent given texts = (i : I) → names.is_read i ≡ true → IsConsistent (given i) (texts i)

  -- No read failed.
  abbrev pub NoReadFailed : CallState I → CallState I → Type 0
  NoReadFailed old new = (i : I) → names.is_read i ≡ true → (new.reader i).failed ≡ (old.reader i).failed

  -- A read of this input failed, or it has 2^63 bytes or more. No other read, write or request for memory failed.
  pub record ReadFaultPost (old new : CallState I) (input : I) : Type 0 where
    pub named : names.is_read input ≡ true
    pub unfailed : (old.reader input).failed ≡ false
    pub cause : HasReadCause (old.reader input) (new.reader input)
    pub others : (i : I) → names.is_read i ≡ true → i ≢ input → (new.reader i).failed ≡ (old.reader i).failed
    pub clean : new.out.write_failed ≡ false
    pub not_denied : new.store.denied ≡ false

  -- A write failed, but no read and no request for memory.
  pub record WriteFaultPost (old new : CallState I) : Type 0 where
    pub write_failed : new.out.write_failed ≡ true
    pub unfailed : NoReadFailed old new
    pub not_denied : new.store.denied ≡ false

  module _ (engine : EngineSpec I) where
    -- All output was pushed, up to the line out of order that was found, if any. Nothing failed, and the readers and
    -- the store can be used again.
    pub record AllPushed (old new : CallState I) (given : I → Received) (pushed : List ℕ) (found : Option (I × ℕ))
        : Type 0 where
      pub out : (texts : I → List ℕ) → AreAllConsistent given texts → pushed ≡ engine.text texts
      pub disorder : (texts : I → List ℕ) → AreAllConsistent given texts → engine.disorder texts ≡ found
      pub ended : found ≡ None → (i : I) → names.is_read i ≡ true → IsDone (new.reader i)
      pub fault : (i : I) → names.is_read i ≡ true → (new.reader i).fault ≡ None
      pub short : (i : I) → names.is_read i ≡ true → (new.reader i).pulled < 2 ^ 63
      pub unfailed : NoReadFailed old new
      pub clean : new.out.write_failed ≡ false
      pub not_denied : new.store.denied ≡ false
      pub empty : total_bytes new.store.lines ≡ 0

    -- A line of one of the inputs is out of order.
    pub record FoundDisorder (old new : CallState I) (given : I → Received) (pushed : List ℕ) (input : I) (line : ℕ)
        : Type 0 where
      pub named : names.is_read input ≡ true
      pub pushed_all : AllPushed old new given pushed (Some (input, line))

    -- Something was left to do: an input was not read to its end, or the engine keeps groups and some output was left.
    abbrev pub IsCallUnfinished : CallState I → (I → Received) → List ℕ → Type 0
    IsCallUnfinished new given pushed =
        ((i : I) × (names.is_read i ≡ true) × (IsDone (new.reader i) → ⊥))
        ⊎ ((engine.keeps_groups ≡ true)
        × ((texts : I → List ℕ) → AreAllConsistent given texts → pushed ≢ engine.text texts))

    -- The store could not grow, but no read and no write failed. Memory was requested for the first slots, or for what
    -- was left to do.
    pub record MemoryFaultPost (old new : CallState I) (given : I → Received) (pushed : List ℕ) : Type 0 where
      pub denied : new.store.denied ≡ true
      pub unfailed : NoReadFailed old new
      pub clean : new.out.write_failed ≡ false
      pub left : engine.first_slots ≤ length new.store.lines → IsCallUnfinished new given pushed

    -- The state after a call, by how it ended.
    abbrev pub CallOutcome : CallState I → CallState I → (I → Received) → List ℕ → CallEnd I → Type 0
    CallOutcome old new given pushed Complete = AllPushed old new given pushed None
    CallOutcome old new given pushed (OutOfOrder input line) = FoundDisorder old new given pushed input line
    CallOutcome old new given pushed (ReadFault input) = ReadFaultPost old new input
    CallOutcome old new given pushed WriteFault = WriteFaultPost old new
    CallOutcome old new given pushed MemoryFault = MemoryFaultPost old new given pushed

    -- A slot could not be added: nothing was read or pushed. Only the terminator of the readers was set.
    pub record IsCallUnread (old new : CallState I) : Type 0 where
      pub readers : (i : I) → names.is_read i ≡ true
          → new.reader i ≡ record (old.reader i) { terminator = engine.terminator }
      pub output : new.out ≡ old.out

    -- The output had failed before the call: the call reports this, and changes nothing.
    pub record IsCallUnchanged (old new : CallState I) (end : CallEnd I) : Type 0 where
      pub is_write_fault : end ≡ WriteFault
      pub readers : (i : I) → names.is_read i ≡ true → new.reader i ≡ old.reader i
      pub output : new.out ≡ old.out
      pub store : new.store ≡ old.store

    -- The postcondition of a call, before which no read of an input had failed. `given` is what was received from each
    -- input, and `texts` are inputs from which it may come.
    pub record CallPost (old new : CallState I) (end : CallEnd I) : Type 0 where
      pub given : I → Received
      pub came : (i : I) → names.is_read i ≡ true → HasReceived (old.reader i) (new.reader i) (given i)
      pub untouched : (i : I) → names.is_read i ≡ false → new.reader i ≡ old.reader i
      pub pushed : List ℕ
      pub wrote : PushEffect old.out new.out pushed
      pub ends : CallOutcome old new given pushed end
      -- the pushed bytes are a prefix of the output for every possible rest of the inputs
      pub is_prefix : (texts : I → List ℕ) → AreAllConsistent given texts → IsPrefix pushed (engine.text texts)
      -- after a failed read, all output that is decided was pushed, unless a write failed
      pub decided_is_written : (i : I) → names.is_read i ≡ true → (new.reader i).failed ≡ true
          → new.out.write_failed ≡ false → IsPrefix (engine.decided given) pushed
      -- regardless of failures and of the other inputs, the output that was decided two blocks (16,384 bytes) of one
      -- input earlier was pushed, and all of it but at most one block was written
      pub bounded_lag : (i : I) → names.is_read i ≡ true → old.out.write_failed ≡ false
          → BoundedLag {I = Unit {0}} (λ came. engine.decided (with_input names i (came tt) given)) (λ u. given i)
          old.out new.out pushed
      -- the store held no more bytes than the bound, and has no more slots than are needed or than it had before
      pub peak : (texts : I → List ℕ) → AreAllConsistent given texts
          → new.store.peak ≤ max old.store.peak (engine.size texts)
      pub slots : (texts : I → List ℕ) → AreAllConsistent given texts
          → length new.store.lines ≤ max (length old.store.lines) (engine.slots texts)
      -- no slot was taken away, and the first slots were added unless the store could not grow
      pub added : old.out.write_failed ≡ false → AddedAtLeast old.store new.store engine.first_slots
      -- if one of the first slots could not be added, nothing was read or pushed
      pub unread : old.out.write_failed ≡ false → length new.store.lines < engine.first_slots → IsCallUnread old new
      -- the readers have the terminator of the engine, if it has one
      pub terminator : (i : I) → names.is_read i ≡ true → old.out.write_failed ≡ false
          → (new.reader i).terminator ≡ terminator_after engine (old.reader i).terminator
      -- on an output that had failed before, the call does nothing
      pub unchanged_if_failed : old.out.write_failed ≡ true → IsCallUnchanged old new end
