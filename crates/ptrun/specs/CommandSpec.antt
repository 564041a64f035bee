-- The requirements on one command, in terms of the bytes of its inputs. The inputs have positions: 0 is standard
-- input, and `i` + 1 the `i`-th file. And what they say of a run: its messages, the operands that it has read to
-- their ends, and when something was left to do.
use Rattle.std.specs.Prelude.{◌≡◌, ◌≢◌, ◌⊎◌, ℕ, ◌+◌, ◌==◌, Option, List, [], ◌++◌, Bool, true, flat_map, is_none, length}
use Rattle.std.specs.Prelude.{take, if◌then◌else◌}
use Rattle.ptlines.specs.Readers.{Reader}
use Rattle.ptlines.specs.Received.{Received}
use Rattle.ptrun.specs.Files.{InputBytes, ReceivedInputs, is_unopened, AreInputsConsistent, IsOneUnended}
use Rattle.ptrun.specs.Messages.{unopened_message, name_of}

-- The specification of a command beyond output, messages, status and memory.
pub record SpecBeyond : Type 0 where
  -- the most slots that the store needs for these lines
  pub slot_bound : InputBytes → ℕ
  -- whether the tool may request memory once its inputs have ended, as `join` does for a group
  pub keeps_groups : Bool
  -- what one operand decides, if operands are read one after another
  pub sequential : Option (Received → List ℕ)
  -- whether the tool reads and writes nothing, given which of the inputs could not be opened
  pub reads_nothing : (ℕ → Bool) → Bool
  -- whether the tool accepts operands at these positions
  pub accepts : Bool

-- The specification of a command.
pub record CommandSpec : Type 0 where
  -- the output, the exit status, and the most bytes of lines that are stored at any moment
  pub out : InputBytes → List ℕ
  pub status : InputBytes → ℕ
  pub memory_bound : InputBytes → ℕ
  -- the output that is decided by what was received, regardless of the bytes that follow
  pub decided : ReceivedInputs → List ℕ
  -- the message after those about unopened files: that about a line out of order, or empty
  pub final_message : InputBytes → List ℕ
  -- the positions of the operands, in order
  pub positions : List ℕ
  -- the name of the tool, and the names of the files
  pub tool : List ℕ
  pub names : List (List ℕ)
  -- what is specified beyond these
  pub beyond : SpecBeyond

-- A message for each of the first `n` operands that is unopened.
abbrev pub operand_messages : CommandSpec → InputBytes → ℕ → List ℕ
operand_messages m w n =
    flat_map (λ p. if is_unopened w p then unopened_message m.tool (name_of m.names p) else []) (take n m.positions)

-- All messages of a run in which no call fails.
abbrev pub messages : CommandSpec → InputBytes → List ℕ
messages m w = operand_messages m w (length m.positions) ++ m.final_message w

-- The operands that were read to their end once `n` of them are done, given the exit status: those `n`, if the tool
-- reads its operands one after another. If it reads them together, all of them after status 0.
abbrev pub ended_operands : CommandSpec → ℕ → ℕ → List ℕ
ended_operands m n status =
    if is_none m.beyond.sequential then (if status == 0 then m.positions else []) else take n m.positions

-- The positions that may have been read once `n` operands are done.
abbrev pub may_touch : CommandSpec → ℕ → List ℕ
may_touch m n = if is_none m.beyond.sequential then m.positions else take (n + 1) m.positions

-- The written bytes are not the whole output, regardless of the bytes that follow in the inputs.
abbrev pub IsUnwritten : CommandSpec → ReceivedInputs → List ℕ → Type 0
IsUnwritten m r written = (w : InputBytes) → AreInputsConsistent r w → written ≢ m.out w

-- A command that stopped after `n` operands, with this output, had something left to do: one of the inputs that it may
-- have begun was opened, and was not read to its end. If the tool keeps groups, all inputs may have ended, but then
-- some output was left to write.
abbrev pub IsUnfinished : CommandSpec → ReceivedInputs → List Reader → List ℕ → ℕ → Type 0
IsUnfinished m r new written n =
    IsOneUnended new (may_touch m n) ⊎ ((m.beyond.keeps_groups ≡ true) × IsUnwritten m r written)
