-- The contract of a run in a store that the caller lends; and the message and the exit status for words that are no
-- command.
use Rattle.std.specs.Prelude.{◌≡◌, ℕ, List, [], Option, Some, None, Ok, false}
use Rattle.ptopts.specs.Commands.{Command, command_of_args}
use Rattle.ptopts.specs.Faults.{Fault}
use Rattle.ptlines.specs.Calls.Outputs.{Output}
use Rattle.ptlines.specs.Readers.{Reader}
use Rattle.ptlines.specs.Sinks.{SinkState}
use Rattle.ptlines.specs.Slots.{Slots, total_bytes}
use Rattle.ptrun.specs.CommandSpec.{CommandSpec}
use Rattle.ptrun.specs.Messages.{memory_message, usage_text}
use Rattle.ptrun.specs.Runs.{IsExactUnlessFailed, IsRunInStore, IsStoreUnchangedIfUnread, IsUnchangedIfUnread}
use Rattle.ptrun.specs.Runs.{Outcome, Sinks}

-- The store was never used, and no request of it for memory failed.
pub record IsUnused (store : Slots) : Type 0 where
  pub empty : total_bytes store.lines ≡ 0
  pub never : store.peak ≡ 0
  pub not_denied : store.denied ≡ false

-- The precondition of a run on its store and its output: the store was never used, no write has failed, and nothing is
-- buffered.
pub record RunPre (lent : Slots) (out : Output) : Type 0 where
  pub store : IsUnused lent
  pub writable : out.write_failed ≡ false
  pub nothing_buffered : out.buffered ≡ []

-- The state of the sink of an output.
abbrev pub sink_of : Output → SinkState
sink_of out =
    record { accepted = out.accepted; failed = out.write_failed; unflushed = out.unflushed; flushes = out.flushes }

-- The outcome of a run with this exit status that left this output, these messages and this store.
abbrev pub outcome_of : Output → SinkState → Slots → ℕ → Outcome
outcome_of out messages store status =
    record { out = sink_of out; messages = messages; status = status; peak = store.peak; denied = store.denied }

-- The postcondition of a run of this command: it is exact unless a call failed, and if the command is to read nothing,
-- then inputs, output and store are unchanged.
pub record RunWithStorePost (m : CommandSpec) (old new : List Reader) (handed : Sinks) (o : Outcome)
    (lent left : Slots) : Type 0 where
  pub run : IsRunInStore m old new handed o lent left
  pub is_exact : IsExactUnlessFailed m old new handed o
  pub reads_nothing : IsUnchangedIfUnread m old new handed.out o
  pub keeps_nothing : IsStoreUnchangedIfUnread m old lent left

-- Some words mean this command.
abbrev pub IsMeant : Command → Type 0
IsMeant command = (words : List (List ℕ)) × (command_of_args words ≡ Ok command)

-- The message about arguments that are no command: that about the usage fault, or that about a lack of memory while
-- they were parsed (`None`).
abbrev pub usage_message : List ℕ → Option Fault → List ℕ
usage_message tool None = memory_message tool
usage_message tool (Some fault) = usage_text tool fault

-- The exit status that goes with it.
abbrev pub usage_status : Option Fault → ℕ
usage_status None = 1
usage_status (Some fault) = 2
