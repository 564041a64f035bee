-- Beyond output, messages, status and memory: what one operand decides, the slots of the store, the operands that a
-- tool takes, and when it reads nothing.
use Rattle.std.specs.Prelude.{ℕ, ◌+◌, ◌==◌, ◌&&◌, ◌||◌, Bool, true, false, not, List, Option, None, Some, is_none}
use Rattle.std.specs.Prelude.{if◌then◌else◌, length, map, nat_le}
use Rattle.std.specs.List.{list_any}
use Rattle.ptlines.specs.Received.{Received}
use Rattle.ptmerge.specs.declared.key_order.Side.TheVariants.{First, Second}
use Rattle.ptopts.specs.Commands.{Job, RunComm, RunCut, RunJoin, RunPaste, RunTr, RunUniq}
use Rattle.ptrun.specs.Cut.{cut_decided}
use Rattle.ptrun.specs.CommandSpec.{SpecBeyond}
use Rattle.ptrun.specs.Decided.{all_received, has_unopened, input_of, inputs_in_turn, operand}
use Rattle.ptrun.specs.Files.{ReceivedInputs}
use Rattle.ptrun.specs.Join.{join_key, max_group}
use Rattle.ptrun.specs.Lines.{known_lines, maximum}
use Rattle.ptrun.specs.Paste.{paste_serial_decided}
use Rattle.ptrun.specs.Tr.{tr}

-- The output that one operand decides, for a tool that reads its operands one after another.
abbrev pub decided_of_one : Job → Option (Received → List ℕ)
decided_of_one (RunCut job) = Some (cut_decided job)
decided_of_one (RunTr m) = Some (λ given. tr m given.bytes)
decided_of_one (RunPaste job) = if job.serial then Some (paste_serial_decided job) else None
decided_of_one _ = None

-- The most slots that the store needs for the lines of these inputs: one for `cut` by fields, if an operand was opened;
-- none for `cut` by bytes, `tr` and `paste -s`. For tools that read their operands together, if all were opened: one for
-- each operand of `paste`, two for each input of the others, and for `join`, if it writes pairs, one for each of the
-- second input's lines with one key.
abbrev pub slot_bound : Job → List ℕ → ReceivedInputs → ℕ
slot_bound (RunCut job) positions r = maximum (map (λ input. if job.fields then 1 else 0) (inputs_in_turn r positions))
slot_bound (RunTr m) positions r = 0
slot_bound (RunPaste job) positions r = if job.serial || has_unopened positions r then 0 else length positions
slot_bound (RunUniq job) positions r = if has_unopened positions r then 0 else 2
slot_bound (RunComm job) positions r = if has_unopened positions r then 0 else 4
slot_bound (RunJoin job) positions r = let ls = known_lines job.terminator (input_of r positions Second) in
    if has_unopened positions r then 0 else 4 + (if job.pairs then max_group length (join_key job Second) ls else 0)

-- Whether the tool may request memory once its inputs have ended, as `join` does for the lines with one key.
abbrev pub keeps_groups : Job → Bool
keeps_groups (RunJoin job) = job.pairs
keeps_groups _ = false

-- Two different operands.
abbrev pub are_two : List ℕ → Bool
are_two positions = (length positions == 2) && not (operand positions First == operand positions Second)

-- Whether the tool takes these operands.
abbrev pub accepts : Job → List ℕ → Bool
accepts (RunPaste job) positions = if job.serial then true else nat_le (length positions) 512
accepts (RunUniq job) positions = length positions == 1
accepts (RunComm job) positions = are_two positions
accepts (RunJoin job) positions = are_two positions
accepts _ positions = true

-- Whether nothing is read or written, given which inputs could not be opened.
abbrev pub reads_nothing : Job → List ℕ → (ℕ → Bool) → Bool
reads_nothing job positions is_unopened_at = is_none (decided_of_one job) && list_any is_unopened_at positions

-- The specification of a command with this job over operands at these positions.
abbrev pub spec_beyond : Job → List ℕ → SpecBeyond
spec_beyond job positions = record {
  slot_bound = λ w. slot_bound job positions (all_received w);
  keeps_groups = keeps_groups job;
  sequential = decided_of_one job;
  reads_nothing = reads_nothing job positions;
  accepts = accepts job positions;
}

-- And of words for which nothing is read.
abbrev pub unread : SpecBeyond
unread = record { slot_bound = λ w. 0; keeps_groups = false; sequential = None; reads_nothing = λ r. true; accepts = true }
