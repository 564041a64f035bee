-- Tools that read their operands one after another: `cut`, `paste -s` and `tr`. A file that could not be opened is
-- reported and skipped.
use Rattle.std.specs.Prelude.{Some, ℕ, true, false, List, [], map, flat_map, if◌then◌else◌}
use Rattle.std.specs.List.{list_any}
use Rattle.ptlines.specs.Received.{Received, empty_input}
use Rattle.ptflow.specs.ToolSpec.{ToolSpec}
use Rattle.ptrun.specs.Lines.{maximum}
use Rattle.ptrun.specs.CommandSpec.{CommandSpec}
use Rattle.ptrun.specs.Decided.{up_to_unended}
use Rattle.ptrun.specs.Files.{InputBytes, ReceivedInputs, is_unopened}
use Rattle.ptrun.specs.Private.Operands.{opened_inputs}

-- The output over operands at these positions: that of each input in turn.
abbrev pub sequential_output : ToolSpec → InputBytes → List ℕ → List ℕ
sequential_output t w positions = flat_map t.text (opened_inputs [] w positions)

-- The most bytes of lines stored over operands at these positions: the maximum over the inputs.
abbrev pub sequential_bound : ToolSpec → InputBytes → List ℕ → ℕ
sequential_bound t w positions = maximum (map t.size (opened_inputs [] w positions))

-- The most slots over operands at these positions: the tool's, or none if no operand was opened.
abbrev pub sequential_slots : ToolSpec → InputBytes → List ℕ → ℕ
sequential_slots t w positions = maximum (map (λ input. t.slots) (opened_inputs [] w positions))

-- The output that is decided by what was received from the operands in order: nothing is decided after the first input
-- whose end was not reached.
abbrev pub decided_in_order : ToolSpec → List Received → List ℕ
decided_in_order t came = flat_map t.decided (up_to_unended came)

-- The output that is decided by what was received, with operands at these positions.
abbrev pub sequential_decided : ToolSpec → ReceivedInputs → List ℕ → List ℕ
sequential_decided t r positions = decided_in_order t (opened_inputs empty_input r positions)

-- The specification of the tool named `word` with operands at these positions and files of these names.
abbrev pub sequential_spec : List ℕ → ToolSpec → List (List ℕ) → List ℕ → CommandSpec
sequential_spec word t names positions = record {
  out = λ w. sequential_output t w positions;
  status = λ w. if list_any (is_unopened w) positions then 1 else 0;
  memory_bound = λ w. sequential_bound t w positions;
  decided = λ r. sequential_decided t r positions;
  final_message = λ w. [];
  positions = positions;
  tool = word;
  names = names;
  beyond = record {
    slot_bound = λ w. sequential_slots t w positions;
    keeps_groups = false;
    sequential = Some t.decided;
    reads_nothing = λ is_unopened_at. false;
    accepts = true;
  };
}
