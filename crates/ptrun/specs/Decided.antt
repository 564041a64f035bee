-- The output of a command: what is decided by what was received of its inputs. The whole output is what is decided by
-- inputs that are known whole; of `uniq` also the last run, which goes on until the input ends.
use Rattle.std.specs.Prelude.{ℕ, Bool, true, List, [], ◌++◌, Option, None, map, take, unwrap_or}
use Rattle.std.specs.Prelude.{◌∷◌, filter_map, option_map, option_to_list, slice_index_or, if◌then◌else◌}
use Rattle.std.specs.List.{enumerate_from, flat_map, last_or, list_any}
use Rattle.ptlines.specs.Engines.{is_in}
use Rattle.ptlines.specs.Received.{Received}
use Rattle.ptflow.specs.Uniqs.{output_of, runs}
use Rattle.ptmerge.specs.declared.key_order.Side.{Side}
use Rattle.ptmerge.specs.declared.key_order.Side.TheVariants.{First, Second}
use Rattle.ptopts.specs.Commands.{Job, RunComm, RunCut, RunJoin, RunPaste, RunTr, RunUniq}
use Rattle.ptrun.specs.Comm.{comm}
use Rattle.ptrun.specs.Cut.{cut_decided}
use Rattle.ptrun.specs.Files.{InputBytes, ReceivedInputs, at, is_unopened}
use Rattle.ptrun.specs.Join.{join}
use Rattle.ptrun.specs.Lines.{known_lines}
use Rattle.ptrun.specs.Merges.{merged}
use Rattle.ptrun.specs.Paste.{paste_decided, paste_serial_decided}
use Rattle.ptrun.specs.Tr.{tr}
use Rattle.ptrun.specs.Uniq.{uniq_decided}

-- ---- inputs

-- An input that was received to its end.
abbrev pub whole : List ℕ → Received
whole bytes = record { bytes = bytes; eof = true }

-- The operands' inputs that were opened. One read before is empty.
abbrev pub inputs_in_turn : ReceivedInputs → List ℕ → List Received
inputs_in_turn r positions =
    filter_map (λ (c : ℕ × ℕ). option_map (λ g. if is_in (take c.0 positions) c.1 then whole [] else g) (at r c.1))
    (enumerate_from 0 positions)

-- The inputs up to and including the first whose end was not reached.
abbrev pub up_to_unended : List Received → List Received
up_to_unended [] = []
up_to_unended (g ∷ gs) = g ∷ (if g.eof then up_to_unended gs else [])

-- The position of the first or of the second operand.
abbrev pub operand : List ℕ → Side → ℕ
operand positions First = slice_index_or positions 0 0
operand positions Second = slice_index_or positions 1 0

-- The received part of the input at a position. One that is not there is empty, and its end was reached.
abbrev pub received_in : ReceivedInputs → ℕ → Received
received_in r position = unwrap_or (at r position) (whole [])

-- An operand could not be opened.
abbrev pub has_unopened : {X : Type 0} → List ℕ → List (Option X) → Bool
has_unopened positions xs = list_any (is_unopened xs) positions

-- The inputs as a tool sees them that reads its operands together: if one could not be opened, it sees none, and each
-- counts as empty and ended, of which nothing is written.
abbrev pub inputs_together : ReceivedInputs → List ℕ → ReceivedInputs
inputs_together r positions = if has_unopened positions r then [] else r

-- That of the first or of the second operand, which are read together.
abbrev pub input_of : ReceivedInputs → List ℕ → Side → Received
input_of r positions side = received_in (inputs_together r positions) (operand positions side)

-- All inputs, received to their ends.
abbrev pub all_received : InputBytes → ReceivedInputs
all_received w = map (λ input. option_map whole input) w

-- ---- output

-- The output that is decided by what was received. If operands are read in turn, nothing is decided after the first
-- input whose end was not reached.
abbrev pub decided : Job → List ℕ → ReceivedInputs → List ℕ
decided (RunCut job) positions r = flat_map (cut_decided job) (up_to_unended (inputs_in_turn r positions))
decided (RunTr m) positions r = flat_map (λ given. tr m given.bytes) (up_to_unended (inputs_in_turn r positions))
decided (RunPaste job) positions r =
    if job.serial then flat_map (paste_serial_decided job) (up_to_unended (inputs_in_turn r positions))
    else paste_decided job positions (received_in (inputs_together r positions))
decided (RunUniq job) positions r = uniq_decided job (input_of r positions First)
decided (RunComm job) positions r = merged (comm job) (input_of r positions)
decided (RunJoin job) positions r = merged (join job) (input_of r positions)

-- The output that only the end of the input decides: the last run of `uniq`.
abbrev pub at_end : Job → List ℕ → ReceivedInputs → List ℕ
at_end (RunUniq job) positions r = let ls = known_lines job.terminator (input_of r positions First) in
    output_of job (option_to_list (last_or None (runs job ls)))
at_end _ positions r = []

-- The output.
abbrev pub output : Job → List ℕ → ReceivedInputs → List ℕ
output job positions r = decided job positions r ++ at_end job positions r
