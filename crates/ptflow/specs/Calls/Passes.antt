-- The precondition and the postcondition of an engine that is called on one input: with a store (`PassPost`), or
-- without one (`StorelessPost`).
use Rattle.std.specs.Prelude.{◌≡◌, ℕ, true, false, [], None, Result, Ok, Err}
use Rattle.ptflow.specs.Passes.{pass_engine}
use Rattle.ptflow.specs.ToolSpec.{ToolSpec}
use Rattle.ptflow.specs.declared.faults.FlowFault.{FlowFault}
use Rattle.ptflow.specs.declared.faults.FlowFault.TheVariants.{Memory, Read, Write}
use Rattle.ptlines.specs.Calls.Engines.{CallEnd, CallPost, Complete, InputNames, MemoryFault, ReadFault, WriteFault}
use Rattle.ptlines.specs.Calls.Engines.{call_state}
use Rattle.ptlines.specs.Calls.Outputs.{Output}
use Rattle.ptlines.specs.Readers.{IsDone, Reader}
use Rattle.ptlines.specs.Slots.{Slots, total_bytes}

-- The condition of a call: the reader was opened and has not failed, and the store is empty and not denied.
pub record PassPre (reader : Reader) (store : Slots) : Type 0 where
  pub opened : reader.refused ≡ false
  pub readable : reader.fault ≡ None
  pub not_denied : store.denied ≡ false
  pub empty : total_bytes store.lines ≡ 0

-- The store of a tool that is given none.
abbrev pub no_store : Slots
no_store = record { lines = []; peak = 0; denied = false }

-- One input, which needs no name.
abbrev pub only_input : InputNames (Unit {0})
only_input = record { is_read = λ u. true; is_same = λ u v. true }

-- How a call ended, by its result.
abbrev pub pass_end : Result (Unit {0}) FlowFault → CallEnd (Unit {0})
pass_end (Ok u) = Complete
pass_end (Err (Read place)) = ReadFault tt
pass_end (Err Write) = WriteFault
pass_end (Err Memory) = MemoryFault

-- A call on one input.
pub record PassPost (tool : ToolSpec) (old new : Reader) (was is : Output) (before store : Slots)
    (result : Result (Unit {0}) FlowFault) : Type 0 where
  pub call : CallPost only_input (pass_engine tool) (call_state (λ u. old) was before) (call_state (λ u. new) is store)
      (pass_end result)
  -- the only reader has the index 0
  pub only : (index : ℕ) → result ≡ Err (Read index) → index ≡ 0
  -- a tool without slots leaves the store unchanged
  pub keeps_store : tool.slots ≡ 0 → store ≡ before
  -- a reader that was read to its end stays so
  pub stays_done : IsDone old → IsDone new

-- A call of an engine that is given no store: it is `PassPost` for every store, which it leaves unchanged.
abbrev pub StorelessPost : ToolSpec → Reader → Reader → Output → Output → Result (Unit {0}) FlowFault → Type 0
StorelessPost tool old new was is result = (store : Slots) → PassPre old store
    → PassPost tool old new was is store store result
